use Rattle.std.proofs.Common.{ℕ, List, [], ◌∷◌, ◌++◌, codes, decimal, subst, lit≤}
use Rattle.deciding.specs.Printed.{Puts}
use Rattle.deciding.proofs.Lines.{both, within, two_lines_laid}
use Rattle.deciding.proofs.printing.put_refusal.Goals as goal

pub returns : goal.returns
returns c =
    let names : List ℕ = codes "refusal layer place" ++ 10 ∷ [] in
    let number : Puts 20 (decimal c.args.number) _ _ = subst (λ k. Puts 20 (decimal k) c.put.new.lines.items c.put_number.new.lines.items) c.from.ensures c.put_number.ensures in
    let layer : Puts 20 (decimal c.args.layer) _ _ = subst (λ k. Puts 20 (decimal k) c.put-2.new.lines.items c.put_number-2.new.lines.items) c.from-2.ensures c.put_number-2.ensures in
    let all = both (both (both (both (both (both c.put.ensures number) c.put-2.ensures) layer) c.put-3.ensures) c.put_number-3.ensures) c.put-4.ensures in
    subst (λ piece. Puts 4153 piece c.args.lines.now.items c.put-4.new.lines.items)
    (two_lines_laid [] names (decimal c.args.number) (decimal c.args.layer ∷ decimal c.args.place ∷ [])) (within all (lit≤ tt))
