use Rattle.std.proofs.Common.{ℕ, List, [], ◌∷◌, ◌++◌, codes, decimal, subst}
use Rattle.deciding.specs.Printed.{Puts, verdict_name, word_text, word_at}
use Rattle.deciding.proofs.Lines.{both, two_lines_laid, verdict_put}
use Rattle.deciding.proofs.printing.put_judged.Goals as goal

pub returns : goal.returns
returns c =
    let names : List ℕ = codes "verdict states witness counter" ++ 10 ∷ [] in
    let j = c.args.judged.now in
    let verdict = verdict_put j.judgement.verdict c.verdict_name.result.now c.put.new.lines.items c.put-2.new.lines.items c.verdict_name.ensures c.put-2.ensures in
    let states = both (both (both c.put.ensures verdict) c.put-3.ensures) c.put_number.ensures in
    let witness = both (both states c.put-4.ensures) c.put_word.ensures in
    let all = both (both (both witness c.put-5.ensures) c.put_word-2.ensures) c.put-6.ensures in
    subst (λ piece. Puts 4153 piece c.args.lines.now.items c.put-6.new.lines.items)
    (two_lines_laid [] names (verdict_name j.judgement.verdict) (decimal j.judgement.states
    ∷ word_text (word_at j.witness j.judgement.witness) ∷ word_text (word_at j.counterexample j.judgement.counterexample) ∷ [])) all
