-- The order of words is strict, transitive and total. Of the order of columns only these three facts are used.
use Rattle.std.proofs.Common.{◌≡◌, ℕ, ◌+◌, ◌^◌, ◌<◌, ◌⊎◌, List, [], ◌∷◌, ◌++◌, length, sym, refl, ap, ◌∙◌, subst, ap₂, inl, inr, arith}
use Rattle.std.proofs.lemmas.Bool.{cases_order}
use Rattle.std.proofs.lemmas.List.{length_push}
use Rattle.words.specs.Order.{Before, Leads, Precedes, nth_column, column_place}
use Rattle.words.specs.Laws.{WordOrder}

-- ---- columns

before_never : (c : ℕ) → Before c c → ⊥
before_never c h = omega arith

before_chain : (b c d : ℕ) → Before b c → Before c d → Before b d
before_chain b c d h k = omega arith

before_total : (c d : ℕ) → (c ≡ d) ⊎ (Before c d ⊎ Before d c)
before_total c d = cases_order c d

-- ---- words of one length

leads_never : (w : List ℕ) → Leads w w → ⊥
leads_never [] h = h
leads_never (c ∷ w) (inl b) = before_never c b
leads_never (c ∷ w) (inr h) = leads_never w h.1

leads_chain : (u w v : List ℕ) → Leads u w → Leads w v → Leads u v
leads_chain [] w v h k = absurd h
leads_chain (b ∷ u) [] v h k = absurd h
leads_chain (b ∷ u) (c ∷ w) [] h k = absurd k
leads_chain (b ∷ u) (c ∷ w) (d ∷ v) (inl x) (inl y) = inl (before_chain b c d x y)
leads_chain (b ∷ u) (c ∷ w) (d ∷ v) (inl x) (inr y) = inl (subst (λ z. Before b z) y.0 x)
leads_chain (b ∷ u) (c ∷ w) (d ∷ v) (inr x) (inl y) = inl (subst (λ z. Before z d) (sym x.0) y)
leads_chain (b ∷ u) (c ∷ w) (d ∷ v) (inr x) (inr y) = inr (x.0 ∙ y.0, leads_chain u w v x.1 y.1)

leads_total : (w v : List ℕ) → length w ≡ length v → (w ≡ v) ⊎ (Leads w v ⊎ Leads v w)
leads_total [] [] e = inl refl
leads_total [] (d ∷ v) e = absurd (omega arith)
leads_total (c ∷ w) [] e = absurd (omega arith)
leads_total (c ∷ w) (d ∷ v) e = heads (before_total c d) (leads_total w v (omega arith))
  where
    heads : (c ≡ d) ⊎ (Before c d ⊎ Before d c) → (w ≡ v) ⊎ (Leads w v ⊎ Leads v w)
        → (c ∷ w ≡ d ∷ v) ⊎ (Leads (c ∷ w) (d ∷ v) ⊎ Leads (d ∷ v) (c ∷ w))
    heads (inr (inl b)) t = inr (inl (inl b))
    heads (inr (inr b)) t = inr (inr (inl b))
    heads (inl s) (inl t) = inl (ap₂ ◌∷◌ s t)
    heads (inl s) (inr (inl l)) = inr (inl (inr (s, l)))
    heads (inl s) (inr (inr l)) = inr (inr (inr (sym s, l)))

-- ---- all words

pub never : (w : List ℕ) → Precedes w w → ⊥
never w (inl h) = omega arith
never w (inr h) = leads_never w h.1

pub chain : (u w v : List ℕ) → Precedes u w → Precedes w v → Precedes u v
chain u w v (inl h) (inl k) = inl (omega arith)
chain u w v (inl h) (inr k) = inl (omega arith)
chain u w v (inr h) (inl k) = inl (omega arith)
chain u w v (inr h) (inr k) = inr (h.0 ∙ k.0, leads_chain u w v h.1 k.1)

total : (w v : List ℕ) → (w ≡ v) ⊎ (Precedes w v ⊎ Precedes v w)
total w v = lengths (cases_order (length w) (length v))
  where
    level : length w ≡ length v → (w ≡ v) ⊎ (Leads w v ⊎ Leads v w) → (w ≡ v) ⊎ (Precedes w v ⊎ Precedes v w)
    level e (inl s) = inl s
    level e (inr (inl l)) = inr (inl (inr (e, l)))
    level e (inr (inr l)) = inr (inr (inr (sym e, l)))

    lengths : (length w ≡ length v) ⊎ ((length w < length v) ⊎ (length v < length w)) → (w ≡ v) ⊎ (Precedes w v ⊎ Precedes v w)
    lengths (inl e) = level e (leads_total w v e)
    lengths (inr (inl h)) = inr (inl (inl h))
    lengths (inr (inr h)) = inr (inr (inl h))

pub word_order : WordOrder
word_order = record { never = never; chain = chain; total = total }

-- ---- one column more at the end

leads_append : (u v x y : List ℕ) → Leads u v → Leads (u ++ x) (v ++ y)
leads_append [] v x y h = absurd h
leads_append (c ∷ u) [] x y h = absurd h
leads_append (c ∷ u) (d ∷ v) x y (inl b) = inl b
leads_append (c ∷ u) (d ∷ v) x y (inr h) = inr (h.0, leads_append u v x y h.1)

leads_last : (u : List ℕ) (a b : ℕ) → Before a b → Leads (u ++ a ∷ []) (u ++ b ∷ [])
leads_last [] a b h = inl h
leads_last (c ∷ u) a b h = inr (refl, leads_last u a b h)

pub push_before : (u v : List ℕ) (a b : ℕ) → Precedes u v → Precedes (u ++ a ∷ []) (v ++ b ∷ [])
push_before u v a b (inl h) = inl (omega (arith, length_push u a, length_push v b))
push_before u v a b (inr h) =
    inr (length_push u a ∙ ap (λ k. k + 1) h.0 ∙ sym (length_push v b), leads_append u v (a ∷ []) (b ∷ []) h.1)

pub push_same : (u : List ℕ) (a b : ℕ) → Before a b → Precedes (u ++ a ∷ []) (u ++ b ∷ [])
push_same u a b h = inr (length_push u a ∙ sym (length_push u b), leads_last u a b h)

pub nil_before : (u : List ℕ) (a : ℕ) → Precedes [] (u ++ a ∷ [])
nil_before u a = inl (omega (arith, length_push u a))

-- ---- the columns in their order

pub nth_below : (n k : ℕ) → k < 2 ^ n → nth_column n k < 2 ^ n
nth_below n k h = h

pub nth_ordered : (n j k : ℕ) → j < k → k < 2 ^ n → Before (nth_column n j) (nth_column n k)
nth_ordered n j k h within = h

pub place_below : (n c : ℕ) → c < 2 ^ n → column_place n c < 2 ^ n
place_below n c h = h

pub nth_place : (n c : ℕ) → c < 2 ^ n → nth_column n (column_place n c) ≡ c
nth_place n c h = refl

pub place_nth : (n k : ℕ) → k < 2 ^ n → column_place n (nth_column n k) ≡ k
place_nth n k h = refl
