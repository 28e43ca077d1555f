use Rattle.std.proofs.Common.{◌≡◌, ◌%◌, slice_index, ap, ◌∙◌, arith, unwrap_or}
use lib.Bits.{bit_and}
use Rattle.std.proofs.lemmas.Nat.{and_mask}
use Rattle.words.specs.Sets.{bit}
use Rattle.words.proofs.Bits.{bit_small, byte_of_bit}
use Rattle.trial.proofs.finding.corrected_column.Goals as goal

pub returns : goal.returns
returns c =
    let inputs : c.unwrap_or-inputs.result ≡ slice_index c.args.word.now c.args.p =
    c.unwrap_or-inputs.ensures ∙ ap (λ o. unwrap_or o 0) c.copied.ensures ∙ c.get.ensures.lookup.4 (omega arith) 0 in
    let low : bit_and c.unwrap_or-inputs.result 3 ≡ c.unwrap_or-inputs.result % 4 = and_mask c.unwrap_or-inputs.result 2 in
    let high : c.from.result ≡ bit c.args.p c.args.sum =
    c.from.ensures ∙ byte_of_bit c.is_member.result (bit c.args.p c.args.sum) (bit_small c.args.p c.args.sum) c.is_member.ensures in
    omega arith
