-- What try_collect makes of the parts of a text.
use Rattle.std.proofs.Common.{◌≡◌, ℕ, zero, suc, List, [], ◌∷◌, ◌++◌, map, ◌⊎◌, inl, inr, Option, Some, None, Ok, Err, IfErr, Result, All, sym, refl, ap, subst, ◌∙◌, append_assoc, append-nil}
use Rattle.std.specs.Fn.{Called}
use Rattle.std.specs.Iterator.{AlwaysYields, Yields, Drains}
use Rattle.std.specs.Iterator.Adapters.{map_source, map_callee}
use Rattle.std.specs.Iterator.Runs.{SomeRun, EndsAtFirstErr, YieldsRun}
use Rattle.std.specs.List.{FoldsTo, slice_get}
use Rattle.std.specs.Option.{IsSomeAnd}
use Rattle.std.specs.declared.iter.Map.{Map}
use Rattle.std.proofs.lemmas.Iterator.{maps, YieldsList}
use Rattle.std.proofs.lemmas.List.Elements.{All-nil, All-cons, All-head, All-tail}
use Rattle.std.proofs.lemmas.Option.{none-some, same_Some}
use Rattle.std.proofs.lemmas.Result.{OkIff-at_ok, OkIff-at_err, IfErr-at_err}
use denote.Param.Members.{Mut}
use denote.Ref.{Bor}
use Rattle.trial.specs.declared.recording.Unread.{Unread}
use Rattle.trial.specs.declared.recording.Unread.TheVariants.{NoColumns}
use Rattle.trial.specs.Recordings.{IsColumn, IsRead, column_of}

item_at : {X : Type 0} (o : Option X) (P : X → Type 0) → IsSomeAnd o P → (x : X) × (o ≡ Some x) × P x
item_at None P h = absurd h
item_at (Some x) P h = (x, refl, h)

-- the calls from s read each of the parts in turn, and then there is none
abbrev ReadsParts : {S : Type 0} → (S → Option (Result ℕ Unread) → S → Type 0) → S → List (List ℕ) → Type 0
ReadsParts {S} steps s [] = (r : Result ℕ Unread) (t : S) → steps s (Some r) t → ⊥
ReadsParts {S} steps s (part ∷ more) = ((t : S) → steps s None t → ⊥) × ((r : Result ℕ Unread) (t : S) → steps s (Some r) t → IsRead part r × ReadsParts steps t more)

parts_from_map : {S F : Type 0} (steps : S → Option (Bor (List ℕ)) → S → Type 0) (g : Mut F (Bor (List ℕ) × Unit {0}) (Result ℕ Unread)) (f : F)
    → ((x : Bor (List ℕ)) (r : Result ℕ Unread) (q : F) → Called g f (x, tt) r q → (q ≡ f) × IsRead x.now r)
    → (parts : List (List ℕ)) (s : Map S F) → AlwaysYields steps (λ x. x.now) (map_source s) parts → map_callee s ≡ f → ReadsParts (maps steps g) s parts
parts_from_map steps g f call [] s gives is = λ r t m. gives m.0 (map_source t) m.1
parts_from_map steps g f call (part ∷ more) s gives is = (
  (λ t m. gives.0 (map_source t) m.0),
  (λ r t m.
      let got = gives.1 m.0 (map_source t) m.1 in
      let read = call m.0 r (map_callee t) (subst (λ h. Called g h (m.0, tt) r (map_callee t)) is m.2) in
      (subst (λ p. IsRead p r) got.0 read.1, parts_from_map steps g f call more t got.1 read.0)),
)

-- all parts were columns, and the collection has them in order
module _ {S V : Type 0} (steps : S → Option (Result ℕ Unread) → S → Type 0) (adds : V → Result ℕ Unread → V → Type 0) (items : V → List ℕ)
    (one : (p : V) (r : Result ℕ Unread) (q : V) → adds p r q → (x : ℕ) × (r ≡ Ok x) × (items q ≡ items p ++ x ∷ [])) where
  all_collected : (parts : List (List ℕ)) (s : S) → ReadsParts steps s parts → (rs : List (Result ℕ Unread)) (t u : S) → Yields steps s rs t → steps t None u
      → (b v : V) → FoldsTo adds b rs v → All IsColumn parts × (items v ≡ items b ++ map column_of parts)
  all_collected [] s reads [] t u gave ends b v fold = (All-nil IsColumn, ap items (sym fold) ∙ sym (append-nil (items b)))
  all_collected [] s reads (r ∷ rs) t u gave ends b v fold = absurd (reads r gave.0 gave.1)
  all_collected (part ∷ more) s reads [] t u gave ends b v fold = absurd (reads.0 u (subst (λ z. steps z None u) (sym gave) ends))
  all_collected (part ∷ more) s reads (r ∷ rs) t u gave ends b v fold =
      let next = reads.1 r gave.0 gave.1 in
      let added = one b r fold.0 fold.1 in
      let column = OkIff-at_ok r (IsColumn part) (column_of part) added.0 next.0.0 added.1 in
      let rest = all_collected more gave.0 next.1 rs t u gave.2 ends fold.0 v fold.2 in (
        All-cons IsColumn part more column.0 rest.0,
        rest.1 ∙ ap (λ xs. xs ++ map column_of more) (added.2 ∙ ap (λ x. items b ++ x ∷ []) column.1) ∙ append_assoc (items b) (column_of part ∷ []) (map column_of more),
      )

-- what is read as an error is a part that is no column
failed : {S : Type 0} (steps : S → Option (Result ℕ Unread) → S → Type 0) (parts : List (List ℕ)) (s : S) → ReadsParts steps s parts
    → (rs : List (Result ℕ Unread)) (t : S) → Yields steps s rs t
    → (i : ℕ) (r : Result ℕ Unread) (e : Unread) → slice_get rs i ≡ Some r → r ≡ Err e → (All IsColumn parts → ⊥) × (e ≡ NoColumns)
failed steps parts s reads [] t gave i r e at is = absurd (none-some r at)
failed steps [] s reads (q ∷ rs) t gave i r e at is = absurd (reads q gave.0 gave.1)
failed steps (part ∷ more) s reads (q ∷ rs) t gave zero r e at is =
    let next = reads.1 q gave.0 gave.1 in
    let same : q ≡ Err e = same_Some q r at ∙ is in
    ((λ all. OkIff-at_err q (IsColumn part) (column_of part) e next.0.0 same (All-head IsColumn part more all)), IfErr-at_err (λ x. x ≡ NoColumns) same next.0.1)
failed steps (part ∷ more) s reads (q ∷ rs) t gave (suc i) r e at is =
    let rest = failed steps more gave.0 (reads.1 q gave.0 gave.1).1 rs t gave.2 i r e at is in
    ((λ all. rest.0 (All-tail IsColumn part more all)), rest.1)

-- What try_collect makes of the parts. The last facts are the clauses `ran` and `err`.
module _ {S F : Type 0} {steps : S → Option (Bor (List ℕ)) → S → Type 0} {g : Mut F (Bor (List ℕ) × Unit {0}) (Result ℕ Unread)} {s : Map S F} {parts : List (List ℕ)}
    (f : F) (gives : YieldsList steps (λ x. x.now) (map_source s) parts) (callee : map_callee s ≡ f)
    (call : (x : Bor (List ℕ)) (r : Result ℕ Unread) (q : F) → Called g f (x, tt) r q → (q ≡ f) × IsRead x.now r) where
  reads : ReadsParts (maps steps g) s parts
  reads = parts_from_map steps g f call parts s gives.runs callee

  pub columns_collected : {V : Type 0} (items : V → List ℕ) (adds : V → Result ℕ Unread → V → Type 0) (b v : V) (rs : List (Result ℕ Unread))
      → Drains (maps steps g) s rs → FoldsTo adds b rs v → items b ≡ []
      → ((p : V) (r : Result ℕ Unread) (q : V) → adds p r q → (x : ℕ) × (r ≡ Ok x) × (items q ≡ items p ++ x ∷ []))
      → All IsColumn parts × (items v ≡ map column_of parts)
  columns_collected items adds b v rs drains fold empty one =
      let all = all_collected (maps steps g) adds items one parts s reads rs drains.1.0 drains.0 drains.1.1 drains.1.2 b v fold in
      (all.0, all.1 ∙ ap (λ xs. xs ++ map column_of parts) empty)

  pub no_column : {V Full : Type 0} (stops : Full → Unread → Type 0) (r : Result V Unread)
      → IfErr r (λ e. ((full : Full) × stops full e) ⊎ SomeRun (maps steps g) s (λ p. EndsAtFirstErr p (λ x y. y ≡ x) e))
      → IfErr r (λ e. ((full : Full) × stops full e) ⊎ ((All IsColumn parts → ⊥) × (e ≡ NoColumns)))
  unfolding YieldsRun
  no_column stops (Ok v) err = tt
  no_column stops (Err e) (inl full) = inl full
  no_column stops (Err e) (inr run) =
      let p = run.0 in
      let ends = run.2 in
      let at = item_at (p.at ends.0) (λ x. Err e ≡ x) ends.2 in
      inr (failed (maps steps g) parts p.from (subst (λ z. ReadsParts (maps steps g) z parts) (sym run.1) reads)
      p.items p.gave.0.0 p.gave.0.1 ends.0 at.0 e (sym (p.gave.1 ends.0) ∙ at.1) (sym at.2))
