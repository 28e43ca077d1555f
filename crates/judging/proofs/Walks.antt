-- A walk from a state of a table back to the start, one last column at a time: first for the length of the state's first
-- word, and then to write it down.
use Rattle.std.proofs.Common.{◌≡◌, ℕ, zero, suc, ◌+◌, ◌-◌, ◌^◌, ◌<◌, ◌≤◌, List, [], ◌∷◌, ◌++◌, length, take, drop, set, Some, None, Option, inl, inr, sym, ap, ◌∙◌, subst, arith}
use Rattle.std.proofs.lemmas.Grind.{common_steps}
use Rattle.std.proofs.lemmas.List.{length_push, length-append, length-take-le, length-drop, drop-set, drop-set-lt, nil_from_length}
use Rattle.std.specs.Iterator.{Yields}
use Rattle.std.specs.Iterator.Adapters.{zip_first, zip_second, zip_steps, rev_source, rev_steps}
use Rattle.std.specs.declared.iter.Rev.{Rev}
use Rattle.std.specs.declared.iter.Zip.{Zip}
use Rattle.std.specs.declared.ops.Range.{Range}
use Rattle.std.proofs.iter.runs.Sources.{nat_range_steps_back}
use Rattle.words.specs.Rows.{next_of}
use Rattle.words.specs.declared.rows.Rows.{Rows}
use Rattle.words.proofs.Answering.{step_inside}
use Rattle.words.specs.Described.{described, language_of, IsTable}
use Rattle.judging.specs.Walk.{FirstPair, Follows, FirstLong, Spelled}
use Rattle.judging.specs.declared.walk.Link.{Link}
use Rattle.judging.specs.declared.walk.Links.{Links}
use Rattle.words.proofs.FirstWords.{some_pair, first_pair}

-- ---- one step back

module _ (rows : Rows) (t : IsTable rows) where
  -- inside of the rows, where a column leads is in its cell
  by_cell : (r c : ℕ) → r < rows.states → c < 2 ^ rows.places → (described rows).step r c ≡ next_of rows.places rows.cells.now r c
  by_cell r c hr hc = step_inside rows.places rows.states rows.cells.now r c hr hc

  pub back_some : (j : ℕ) (link : Link) → j < rows.states → FirstPair (described rows) j (Some link)
      → t.first j ≡ t.first link.row ++ link.column ∷ []
  back_some j link hj first =
      let low : link.row < j = first.0 in
      first_pair rows.places (language_of rows) rows.cells.now rows.states t j link.row link.column hj first.0 first.1.0
      (sym (by_cell link.row link.column (omega arith) first.1.0) ∙ first.1.1)
      (λ s d hs hd is. first.2 s d hs (hd, by_cell s d (omega arith) hd ∙ is))

  pub back_none : (j : ℕ) → j < rows.states → FirstPair (described rows) j None → t.first j ≡ []
  back_none zero hj none = t.start
  back_none (suc j) hj none =
      let p = some_pair rows.places (language_of rows) rows.cells.now rows.states t (suc j) (omega arith) hj in
      let low : p.0 < suc j = p.2 in
      absurd (none p.0 p.1 low (p.3, by_cell p.0 p.1 (omega arith) p.3 ∙ p.4))

-- ---- the links for the length

module _ (rows : Rows) where
  one_more : (j : ℕ) (link : Link) (k : ℕ) → FirstPair (described rows) j (Some link) → FirstLong rows link.row k → FirstLong rows j (suc k)
  one_more j link k first rest = (
    omega (arith, first.0, rest.0),
    λ t h. omega (arith, ap length (back_some rows t j link h first), length_push (t.first link.row) link.column, rest.1 t (omega (arith, first.0))),
  )

  -- there are as many links from a state as its first word has columns
  pub links_long : (xs : List Link) (s t u : Links) → s.rows.now ≡ rows → Yields Follows s xs t → Follows t None u → FirstLong rows s.at (length xs)
  links_long [] s t u is y end =
      let here : Follows s None u = subst (λ (q : Links). Follows q None u) (sym y) end in
      let none : FirstPair (described rows) s.at None = subst (λ (r : Rows). FirstPair (described r) s.at None) is here.0 in
      (omega arith, λ t h. ap length (back_none rows t s.at h none))
  links_long (x ∷ xs) s t u is (j, step, y) end =
      one_more s.at x (length xs) (subst (λ (r : Rows). FirstPair (described r) s.at (Some x)) is step.0)
      (subst (λ i. FirstLong rows i (length xs)) step.2 (links_long xs j t u (ap (λ r. r.now) step.1 ∙ is) y end))

-- ---- the links for the word

-- the countdown of places, and the links beside it
abbrev pub Turns : Type 0
Turns = Zip (Rev (Range ℕ)) Links

abbrev places : Turns → Range ℕ
places turns = rev_source (zip_first turns)

abbrev links : Turns → Links
links turns = zip_second turns

-- what `next` of the two gives
abbrev pub Turn : Turns → Option (ℕ × Link) → Turns → Type 0
Turn = zip_steps (rev_steps nat_range_steps_back) Follows

module _ (rows : Rows) (state count : ℕ) (before : List ℕ) where
  -- the columns behind the places that are left were written, and the rest of the word is the first word of the state at hand
  pub record Writing (buffer : List ℕ) (turns : Turns) : Type 0 where
    pub from : (places turns).start ≡ 0
    pub within : (places turns).end ≤ count
    pub over : (links turns).rows.now ≡ rows
    pub low : (links turns).at ≤ state
    pub behind : drop count buffer ≡ drop count before
    pub spelled : (t : IsTable rows) → state < rows.states → length (t.first state) ≡ count
        → t.first state ≡ t.first (links turns).at ++ take (count - (places turns).end) (drop (places turns).end buffer)

  module _ (buffer : List ℕ) (room : count ≤ length buffer) (turns turns' : Turns) (writing : Writing buffer turns) where
    -- what `Follows` says of the rows at hand, said of these
    here : (found : Option Link) → FirstPair (described (links turns).rows.now) (links turns).at found → FirstPair (described rows) (links turns).at found
    here found first = subst (λ (r : Rows). FirstPair (described r) (links turns).at found) writing.over first

    written_more : (k column : ℕ) → k < count → take (count - k) (drop k (set buffer k column)) ≡ column ∷ take (count - (k + 1)) (drop (k + 1) buffer)
    written_more k column left =
        let more : count - k ≡ suc (count - (k + 1)) = omega arith in
        grind (arith, common_steps, drop-set buffer k column (omega arith))

    pub writing_more : (k : ℕ) (link : Link) → Turn turns (Some (k, link)) turns' → Writing (set buffer k link.column) turns'
    writing_more k link (range, (first, same, at)) =
        let is : k ≡ (places turns').end = range.1.1 in
        let more : (places turns).end ≡ k + 1 = omega (arith, range.1.2, is) in
        let left : k < count = omega (arith, more, writing.within) in
        record {
          from = range.0 ∙ writing.from;
          within = omega (arith, is, left);
          over = ap (λ r. r.now) same ∙ writing.over;
          low = omega (arith, at, first.0, writing.low);
          behind = drop-set-lt count buffer k link.column left ∙ writing.behind;
          spelled = λ t h is.
              let back : t.first (links turns).at ≡ t.first link.row ++ link.column ∷ [] = back_some rows t (links turns).at link (omega (arith, writing.low)) (here (Some link) first) in
              grind (arith, common_steps, writing.spelled t h is, written_more k link.column left, at);
        }

    -- no place is left, or no link: in a table it is both, and the whole word is written
    pub writing_end : Turn turns None turns' → Spelled rows state count before buffer
    writing_end end = (writing.behind, λ t h is. whole t h is)
      where
        whole : (t : IsTable rows) → state < rows.states → length (t.first state) ≡ count → take count buffer ≡ t.first state
        whole t h is =
            let k = (places turns).end in
            let rest = take (count - k) (drop k buffer) in
            let parts : length (t.first (links turns).at) + (count - k) ≡ count =
            omega (arith, is, ap length (writing.spelled t h is), length-append (t.first (links turns).at) rest, length-take-le (count - k) (drop k buffer) (omega (arith, room, length-drop k buffer))) in
            let none : length (t.first (links turns).at) ≡ 0 =
            elim end [
              | inl e ↦ omega (arith, parts, writing.within, writing.from, e.1.1.0)
              | inr e ↦ ap length (back_none rows t (links turns).at (omega (arith, writing.low)) (here None e.1.0))
            ] in
            let done : k ≡ 0 = omega (arith, none, parts, writing.within) in
            grind (arith, common_steps, writing.spelled t h is, nil_from_length (t.first (links turns).at) none)
