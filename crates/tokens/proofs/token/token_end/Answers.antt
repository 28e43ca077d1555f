use Rattle.std.proofs.Common.{sym, ◌∙◌, arith}
use Rattle.tokens.proofs.Runs.{other_alone, run_ends, run_cut}
use Rattle.tokens.proofs.token.token_end.Goals as goal

pub returns-then-not-is_ascii_alphabetic-clause-piece :
    goal.returns-then-not-is_ascii_alphabetic-clause-piece
returns-then-not-is_ascii_alphabetic-clause-piece c =
    let other = sym c.is_ascii_alphabetic.ensures.value ∙ c.if-not-is_ascii_alphabetic.true in
    other_alone c.args.text.now c.args.at c.requires.there c.requires.solid other

pub returns-else-is_ascii_alphabetic-clause-piece :
    goal.returns-else-is_ascii_alphabetic-clause-piece
returns-else-is_ascii_alphabetic-clause-piece c =
    let run = c.loop-end.invariant in
    let other = sym c.is_ascii_alphabetic-in-loop-end.ensures.value ∙ c.if-is_ascii_alphabetic.false in
    run_cut c.args.text.now c.loop-end.end run.within (run_ends c.args.text.now c.loop-end.end (λ low. other)) c.args.at run.behind run.letters

pub returns-after-loop-end-clause-piece : goal.returns-after-loop-end-clause-piece
returns-after-loop-end-clause-piece c =
    let run = c.loop-end.invariant in
    let ends = run_ends c.args.text.now c.loop-end.end (λ low. absurd (omega arith)) in
    run_cut c.args.text.now c.loop-end.end run.within ends c.args.at run.behind run.letters
