-- One memory that is cut in two has room exactly when the whole has.
use Rattle.std.proofs.Common.{◌≡◌, ℕ, ◌+◌, ◌*◌, ◌<◌, ◌≤◌, ◌⊎◌, ◌↔◌, inl, inr, ⊎_elim, sym, ap, ◌∙◌, subst}
use Rattle.std.proofs.lemmas.Bool.{cases_lt}
use Rattle.tray.specs.Checks.{FirstFailed, AllPass}
use Rattle.tray.specs.Opening.{open_checks, tables_part}
use Rattle.tray.proofs.Openings.{cut_short}
use Rattle.words.specs.Rows.{width}
use Rattle.calls.specs.declared.running.Settings.{Settings}
use Rattle.deciding.specs.Answers.{opening}

at_most : (n k : ℕ) → (k < n → ⊥) → n ≤ k
at_most n k other = ⊎_elim (λ above. absurd (other above)) (λ few. few) (cases_lt k n)

module _ (s : Settings) (tables spare : ℕ) (whole : tables + spare ≡ 10880) (cut : tables ≡ tables_part s.sets s.budget s.depth 10880) where
  little : s.sets ≤ 8 → s.budget ≤ 512 → s.depth ≤ 16
      → ((tables < s.depth * (s.budget * width s.sets)) ⊎ (spare < 2 * (s.budget * width s.sets))) ↔ (10880 < (s.depth + 2) * (s.budget * width s.sets))
  little sets budget depth =
      subst (λ x. ((tables < s.depth * (s.budget * width s.sets)) ⊎ (spare < 2 * (s.budget * width s.sets))) ↔ (x < (s.depth + 2) * (s.budget * width s.sets)))
      whole (cut_short s.sets s.budget s.depth tables spare sets budget depth (cut ∙ ap (tables_part s.sets s.budget s.depth) (sym whole)))

  pub refused_opening : (k : ℕ) → FirstFailed (open_checks s.sets s.budget s.depth tables spare) k → FirstFailed (opening s) k
  refused_opening k (inl h) = inl h
  refused_opening k (inr (a, inl h)) = inr (a, inl h)
  refused_opening k (inr (a, inr (b, inl h))) = inr (a, inr (b, inl h))
  refused_opening k (inr (a, inr (b, inr (c, inl h)))) =
      inr (a, inr (b, inr (c, inl (h.0, (little (at_most s.sets 8 (λ l. a (inr l))) (at_most s.budget 512 (λ l. b (inr l))) (at_most s.depth 16 (λ l. c (inr l)))).0 h.1))))
  refused_opening k (inr (a, inr (b, inr (c, inr h)))) = absurd h.1

  pub passed_opening : AllPass (open_checks s.sets s.budget s.depth tables spare) → AllPass (opening s)
  passed_opening (a, (b, (c, (d, none)))) =
      (a, (b, (c, ((λ more. d ((little (at_most s.sets 8 (λ l. a (inr l))) (at_most s.budget 512 (λ l. b (inr l))) (at_most s.depth 16 (λ l. c (inr l)))).1 more)), none))))
