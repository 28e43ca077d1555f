use Rattle.std.proofs.Common.{◌≡◌, ℕ, ◌-◌, ◌≤◌, Bool, List, length, Some, None, Option, sym, subst, subst₂, ⊎_elim, arith}
use Rattle.std.specs.Option.{ok_or}
use Rattle.words.specs.Described.{language_of}
use Rattle.words.specs.declared.rows.Rows.{Rows}
use Rattle.judging.specs.Judged.{Judges, Judged}
use Rattle.judging.specs.declared.verdict.Judgement.{Judgement}
use Rattle.tray.specs.declared.control.Control.{Control}
use Rattle.tray.specs.declared.refusal.Refusal.TheVariants.{NoBuffer}
use Rattle.tray.specs.Calls.{judge_checks, JudgesTop}
use Rattle.tray.specs.Checks.{AllPass}
use Rattle.tray.specs.View.{says}
use Rattle.tray.proofs.Builts.{fits_slot}
use Rattle.tray.proofs.Recovering.{says_known}
use Rattle.tray.proofs.tray.Tray.judge.Goals as goal

-- the judgement of the top, where the buffers are long enough
answered : (c : Control) (tables : List ℕ) (rows : Rows) (met missed met' missed' : List ℕ) (r : Option Judgement) → rows.places ≡ c.sets
    → language_of rows ≡ says c tables (c.count - 1) → rows.states ≤ length met → rows.states ≤ length missed
    → AllPass (judge_checks c.budget c.count (length met) (length missed)) → Judges rows met missed met' missed' r
    → JudgesTop c tables met missed met' missed' (ok_or r NoBuffer)
answered c tables rows met missed met' missed' (Some j) places known fits fits' pass h =
    (pass, subst₂ (λ n l. Judged n l met missed met' missed' j) places known h.5)
answered c tables rows met missed met' missed' None places known fits fits' pass h =
    absurd (⊎_elim (λ l. omega (arith, l, fits)) (λ l. omega (arith, l, fits')) h.0)

pub returns : goal.returns
returns c =
    let t = c.args.self.now in
    let k = t.control in
    let top : ℕ = k.count - 1 in
    let rows = c.table-table.result.rows in
    let some : 1 ≤ k.count = c.if-control-lt1.false in
    let few : rows.states ≤ k.budget = omega (arith, c.table-table.ensures.states, fits_slot k t.tables.now top (t.live top (omega arith))) in
    let known = says_known k t.tables.now top rows c.table-table.ensures.places c.table-table.ensures.states c.table-table.ensures.cells in
    subst (JudgesTop k t.tables.now c.args.witness.now c.args.counterexample.now c.judge_table.new.witness c.judge_table.new.counterexample) (sym c.ok_or.ensures.value)
    (answered k t.tables.now rows c.args.witness.now c.args.counterexample.now c.judge_table.new.witness c.judge_table.new.counterexample c.judge_table.result
    c.table-table.ensures.places known (omega (arith, few, c.if-witness-control.false)) (omega (arith, few, c.if-counterexample-control.false))
    ((λ short. ⊎_elim (λ l. omega (arith, c.if-witness-control.false)) (λ l. omega (arith, c.if-counterexample-control.false)) short), ((λ l. omega arith), tt))
    c.judge_table.ensures)
