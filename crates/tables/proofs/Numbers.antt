-- Numbering classes by their lowest states, state by state.
use Rattle.std.proofs.Common.{◌≡◌, ℕ, ◌+◌, ◌<◌, List, length, slice_index, slice_set, get_or-set_same, get_or-set_other, sym, ◌∙◌, arith}
use Rattle.tables.specs.Numbered.{Numbered}
use Rattle.tables.proofs.Lows.{more_set}

module _ (class : ℕ → ℕ) (k : ℕ) (numbers leaders : List ℕ) (kept : ℕ) (old : Numbered class k (slice_index numbers) (slice_index leaders) kept)
    (room : k < length numbers)
  where
    number_same : (v s : ℕ) → s < k → slice_index (slice_set numbers k v) s ≡ slice_index numbers s
    number_same v s h = get_or-set_other numbers k s v 0 (λ e. omega arith)

    -- k is in the class of a lower state
    pub numbered_old : class k < k → class (class k) ≡ class k
        → Numbered class (k + 1) (slice_index (slice_set numbers k (slice_index numbers (class k)))) (slice_index leaders) kept
    numbered_old lower itself =
        let v : ℕ = slice_index numbers (class k) in
        record {
          few = omega (arith, old.few);
          number_kept = more_set (λ s n. n < kept) numbers k v room old.number_kept (old.number_kept (class k) lower);
          leads = more_set (λ s n. slice_index leaders n ≡ class s) numbers k v room old.leads (old.leads (class k) lower ∙ itself);
          leader_below = λ j h. omega (arith, old.leader_below j h);
          leader_number = λ j h. number_same v (slice_index leaders j) (old.leader_below j h) ∙ old.leader_number j h;
          rising = old.rising;
        }

    -- k is the lowest state of a class
    module _ (wide : kept < length leaders) (own : class k ≡ k) where
      leader_same : (j : ℕ) → j < kept → slice_index (slice_set leaders kept k) j ≡ slice_index leaders j
      leader_same j h = get_or-set_other leaders kept j k 0 (λ e. omega arith)

      pub numbered_new : Numbered class (k + 1) (slice_index (slice_set numbers k kept)) (slice_index (slice_set leaders kept k)) (kept + 1)
      numbered_new = record {
        few = omega (arith, old.few);
        number_kept = more_set (λ s n. n < kept + 1) numbers k kept room (λ s h. omega (arith, old.number_kept s h)) (omega arith);
        leads = more_set (λ s n. slice_index (slice_set leaders kept k) n ≡ class s) numbers k kept room
            (λ s h. leader_same (slice_index numbers s) (old.number_kept s h) ∙ old.leads s h) (get_or-set_same leaders kept k 0 wide ∙ sym own);
        leader_below = more_set (λ j s. s < k + 1) leaders kept k wide (λ j h. omega (arith, old.leader_below j h)) (omega arith);
        leader_number = more_set (λ j s. slice_index (slice_set numbers k kept) s ≡ j) leaders kept k wide
            (λ j h. number_same kept (slice_index leaders j) (old.leader_below j h) ∙ old.leader_number j h) (get_or-set_same numbers k kept 0 room);
        rising = λ i j l h. more_set (λ j s. i < j → slice_index (slice_set leaders kept k) i < s) leaders kept k wide
            (λ j h l. omega (arith, leader_same i (omega arith), old.rising i j l h)) (λ l. omega (arith, leader_same i l, old.leader_below i l)) j h l;
      }
