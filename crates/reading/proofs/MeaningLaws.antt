-- The laws of meaning, put together.
use Rattle.std.proofs.Common.{◌≡◌, ℕ, ◌^◌, ◌<◌, cond, List, [], get_or, Option, ap, ◌∙◌}
use Rattle.std.specs.Prelude.{All}
use Rattle.std.specs.Char.{is_ascii_lowercase}
use Rattle.words.specs.Automata.{Automaton}
use Rattle.words.specs.Words.{Columns, coded}
use Rattle.words.proofs.Coding.{every_choice}
use Rattle.tokens.specs.Items.{items_of}
use Rattle.tokens.specs.Numbering.{set_of}
use Rattle.grammar.specs.Claims.{Claim, spelled, Fits, free}
use Rattle.reading.specs.Formulas.{whole}
use Rattle.reading.specs.Meaning.{as_set, Codes}
use Rattle.reading.specs.MeaningLaws.{variables, MeaningLaws, WholeLaws}
use Rattle.reading.proofs.Alone.{only_power}
use Rattle.reading.proofs.Free.{free_all}
use Rattle.reading.proofs.Lists.{all_joined}
use Rattle.reading.proofs.Numbering.{Known, letters_of, known, letters_and_sets}
use Rattle.reading.proofs.Telling.{fitting, means, same_residuals}
use Rattle.reading.proofs.Truths.{sure_of_all}

-- the word that codes, for each set, what its letter stands for
some_word : (numbered : List ℕ → Option ℕ) (a : ℕ → Automaton) (n : ℕ) (text : List ℕ) (f : Claim) (v : ℕ → ℕ)
    → items_of numbered a text ≡ spelled f [] → Fits n 0 f → (w : List ℕ) × Columns n w × Codes (free [] f) v w
some_word numbered a n text f v spells fits =
    let number : ℕ → ℕ = λ letter. set_of letter (letters_of text) in
    let name : ℕ → ℕ = λ set. get_or (letters_of text) set 0 in
    let value : ℕ → ℕ = λ letter. cond (is_ascii_lowercase letter) (2 ^ v letter) (v letter) in
    let word = every_choice n (λ i. value (name i)) in
    let codes : All (λ x. coded x.set word.0 ≡ as_set v x) (variables f) =
    all_joined (Known number name) (λ x. x.set < n) (λ x. coded x.set word.0 ≡ as_set v x)
    (λ x knows low. word.2 x.set low ∙ ap value knows.1) (variables f) (known numbered a text f spells) (fitting n 0 f fits) in
    (word.0, word.1, free_all (λ x. coded x.set word.0 ≡ as_set v x) f [] codes)

pub meaning_laws : MeaningLaws
meaning_laws = record { alone = only_power; one_set = letters_and_sets; some_word = some_word }

pub whole_laws : (holds : ℕ → List ℕ → Type 0) → WholeLaws holds
whole_laws holds = record {
  means = λ numbered a n text f spells fits decided. means numbered a holds n text f spells fits (sure_of_all holds decided (whole n f));
  residuals = λ n f. same_residuals n holds f;
}
