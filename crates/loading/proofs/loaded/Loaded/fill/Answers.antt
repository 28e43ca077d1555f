use Rattle.std.proofs.Common.{◌≡◌, ℕ, zero, suc, ◌*◌, ◌≤◌, List, length, take, get_or, ap, ap₂, ◌∙◌, subst, length-take-le, mul-le-mul_right, ⊎_elim, arith}
use Rattle.std.proofs.lemmas.Bool.{cases_lt}
use Rattle.words.specs.Rows.{width}
use Rattle.tray.specs.Checks.{AllPass}
use Rattle.books.specs.Names.{IsName}
use Rattle.loading.specs.declared.draft.Draft.{Draft}
use Rattle.loading.specs.Drafts.{PutAt, room, seal_checks}
use Rattle.loading.proofs.Sealings.{sealed_nexts, sealed_settled, letters_at, put_front}
use Rattle.loading.proofs.Small.{put_small, take_small}
use Rattle.loading.proofs.loaded.Loaded.fill.Goals as goal

-- the rows of the draft lie in the memory, and they are the front of what they were put into
fronts : (d : Draft) (memory name old new : List ℕ) (used : ℕ) → AllPass (seal_checks d memory name) → used ≡ d.rows * width d.places
    → PutAt 0 (take used memory) old new → take (d.rows * width d.places) new ≡ take (d.rows * width d.places) memory
fronts d memory name old new used pass is put =
    let m : ℕ = d.rows * width d.places in
    let room_there : room d.places ≤ length memory = ⊎_elim (λ l. absurd (pass.0 l)) (λ l. l) (cases_lt (length memory) (room d.places)) in
    let within : m ≤ length memory = omega (arith, room_there, mul-le-mul_right (width d.places) d.few_rows) in
    put_front old new (take m memory) m (subst (λ u. PutAt 0 (take u memory) old new) is put) (length-take-le m memory within)

pub invariant_of-self-clause-nexts : goal.invariant_of-self-clause-nexts
invariant_of-self-clause-nexts c =
    let d = c.args.draft.now in
    let used = ap₂ ◌*◌ c.from.ensures (c.row_length.ensures.is ∙ ap width c.from-2.ensures) in
    sealed_nexts d c.args.memory.now c.args.name.now c.put_at.new.memory c.requires.pass
    (fronts d c.args.memory.now c.args.name.now _ c.put_at.new.memory _ c.requires.pass used c.put_at.ensures)

pub invariant_of-self-clause-settled : goal.invariant_of-self-clause-settled
invariant_of-self-clause-settled c =
    let d = c.args.draft.now in
    let used = ap₂ ◌*◌ c.from.ensures (c.row_length.ensures.is ∙ ap width c.from-2.ensures) in
    sealed_settled d c.args.memory.now c.args.name.now c.put_at.new.memory c.requires.pass
    (fronts d c.args.memory.now c.args.name.now _ c.put_at.new.memory _ c.requires.pass used c.put_at.ensures)

-- whichever of its letters stand where
letters : (name : List ℕ) → IsName name
    → ((97 ≤ get_or name 0 0) × (get_or name 0 0 ≤ 122)) × ((97 ≤ get_or name 1 0) × (get_or name 1 0 ≤ 122)) × ((97 ≤ get_or name 2 0) × (get_or name 2 0 ≤ 122))
letters name named = (letters_at name named 0 (omega arith), letters_at name named 1 (omega arith), letters_at name named 2 (omega arith))

pub invariant_of-self-clause-letters : goal.invariant_of-self-clause-letters
invariant_of-self-clause-letters c zero some h = let l = letters c.args.name.now c.requires.named in search (l.0, l.1, l.2)
invariant_of-self-clause-letters c (suc zero) some h = let l = letters c.args.name.now c.requires.named in search (l.0, l.1, l.2)
invariant_of-self-clause-letters c (suc (suc zero)) some h = let l = letters c.args.name.now c.requires.named in search (l.0, l.1, l.2)
invariant_of-self-clause-letters c (suc (suc (suc i))) some h = absurd (omega arith)

pub invariant_of-self-clause-sixteen_bits : goal.invariant_of-self-clause-sixteen_bits
invariant_of-self-clause-sixteen_bits c =
    let used : ℕ = c.from.result * c.row_length.result in
    put_small 0 (take used c.args.memory.now) c.args.self.now.cells c.put_at.new.memory c.put_at.ensures
    (take_small used c.args.memory.now (λ i. omega (arith, c.type_inv.memory i))) c.args.self.now.sixteen_bits
