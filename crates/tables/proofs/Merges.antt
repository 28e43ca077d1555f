-- Settled classes, their numbers and the rows written from them are a merging.
use Rattle.std.proofs.Common.{◌≡◌, ℕ, ◌^◌, ◌<◌, List, slice_index, sym, ap, ◌∙◌, arith}
use Rattle.words.specs.Described.{described}
use Rattle.words.specs.declared.rows.Rows.{Rows}
use Rattle.words.proofs.Merging.{class_alike}
use Rattle.tables.specs.Merged.{Merged}
use Rattle.tables.specs.Numbered.{Numbered, Wrote}
use Rattle.tables.specs.Refined.{Settled}
use Rattle.tables.specs.declared.merging.Classes.{Classes}

module _ (k : Classes) (numbers leaders : List ℕ) (count : ℕ) (settled : (c : ℕ) → c < 2 ^ k.rows.places → Settled k c)
    (numbered : Numbered (slice_index k.class.now) k.rows.states (slice_index numbers) (slice_index leaders) count)
  where
    one_class : (s t : ℕ) → s < k.rows.states → t < k.rows.states → slice_index numbers s ≡ slice_index numbers t → slice_index k.class.now s ≡ slice_index k.class.now t
    one_class s t hs ht e = sym (numbered.leads s hs) ∙ ap (slice_index leaders) e ∙ numbered.leads t ht

    one_number : (s t : ℕ) → s < k.rows.states → t < k.rows.states → slice_index k.class.now s ≡ slice_index k.class.now t → slice_index numbers s ≡ slice_index numbers t
    one_number s t hs ht e =
        sym (numbered.leader_number (slice_index numbers s) (numbered.number_kept s hs))
        ∙ ap (slice_index numbers) (numbered.leads s hs ∙ e ∙ sym (numbered.leads t ht))
        ∙ numbered.leader_number (slice_index numbers t) (numbered.number_kept t ht)

    pub merged : {r : Rows} {out out' : List ℕ} → k.rows ≡ r → Wrote (described r) r.places (slice_index numbers) (slice_index leaders) count out out'
        → Merged r.places r.states r.cells.now count out'
    merged {r} {out} {out'} is wrote =
        let here : Wrote (described k.rows) k.rows.places (slice_index numbers) (slice_index leaders) count out out' = rw is wrote in
        rw (← is) record {
          into = slice_index numbers;
          low = slice_index leaders;
          into_kept = numbered.number_kept;
          low_met = numbered.leader_below;
          low_into = numbered.leader_number;
          lowest = λ s h. omega (arith, numbered.leads s h, k.classed.low s h);
          rising = numbered.rising;
          alike = λ s t hs ht e.
              class_alike _ _ _ _ k.classed k.closed settled s t hs ht (one_class s t hs ht e);
          apart = λ s t hs ht same. one_number s t hs ht (k.classed.keeps s t hs ht same);
          next = here.next;
          mark = here.mark;
        }
