-- How something is looked for in a list, among what has its key.
use Rattle.std.specs.Prelude.{◌≡◌, ℕ, ◌+◌, ◌≤◌, ◌<◌, List, length, Option, Some, None}
use Rattle.std.specs.List.{slice_get}
use Rattle.std.proofs.Common.{ap, sym, ◌∙◌, arith, ◌⊎◌, inl, inr}
use Rattle.std.proofs.lemmas.Bool.{cases_eq, cases_lt}
use Rattle.std.proofs.lemmas.Option.{slice_get_within}
use Rattle.circ_hash_chains.specs.Keys.{IsLastBelow}

-- x stands at no place above this one, which has the key; at none if there is none
abbrev pub IsUpTo : {X : Type 0} (keys : List ℕ) (key : ℕ) (xs : List X) → X → Option ℕ → Type 0
IsUpTo keys key xs x None = (n : ℕ) → slice_get xs n ≡ Some x → ⊥
IsUpTo keys key xs x (Some m) = (slice_get keys m ≡ Some key) × ((n : ℕ) → slice_get xs n ≡ Some x → n ≤ m)

-- more than the number, if there is one
abbrev pub above_number : Option ℕ → ℕ
above_number None = 0
above_number (Some n) = n + 1

module _ {X : Type 0} (keys : List ℕ) (key : ℕ) (xs : List X) (x : X) (key_at : (n : ℕ) → slice_get xs n ≡ Some x → slice_get keys n ≡ Some key) where
  pub left_first : (o : Option ℕ) → IsLastBelow keys key (length keys) o → IsUpTo keys key xs x o
  left_first None h = λ n e. h n (slice_get_within keys n key (key_at n e)) (key_at n e)
  left_first (Some m) h = (h.1, λ n e. up_to n (key_at n e) (cases_lt m n))
    where
      up_to : (n : ℕ) → slice_get keys n ≡ Some key → (m < n) ⊎ (n ≤ m) → n ≤ m
      up_to n e (inl b) = absurd (h.2 n b (slice_get_within keys n key e) e)
      up_to n e (inr b) = b

  -- something else stands at the place, and the next is looked at
  pub left_next : (m : ℕ) (o : Option ℕ) → IsUpTo keys key xs x (Some m) → (slice_get xs m ≡ Some x → ⊥) → IsLastBelow keys key m o → IsUpTo keys key xs x o
  left_next m None h other k = λ n e. go n e (cases_eq n m)
    where
      go : (n : ℕ) → slice_get xs n ≡ Some x → (n ≡ m) ⊎ (n ≡ m → ⊥) → ⊥
      go n e (inl s) = other (ap (slice_get xs) (sym s) ∙ e)
      go n e (inr s) = let b = h.1 n e in k n (omega (arith, b)) (key_at n e)
  left_next m (Some i) h other k = (k.1, λ n e. go n e (cases_eq n m))
    where
      go : (n : ℕ) → slice_get xs n ≡ Some x → (n ≡ m) ⊎ (n ≡ m → ⊥) → n ≤ i
      go n e (inl s) = absurd (other (ap (slice_get xs) (sym s) ∙ e))
      go n e (inr s) = up_to (h.1 n e) (cases_lt i n)
        where
          up_to : n ≤ m → (i < n) ⊎ (n ≤ i) → n ≤ i
          up_to b (inl above) = absurd (k.2 n above (omega (arith, b, s)) (key_at n e))
          up_to b (inr below) = below

pub left_less : (keys : List ℕ) (key m : ℕ) (o : Option ℕ) → IsLastBelow keys key m o → above_number o < m + 1
left_less keys key m None h = omega arith
left_less keys key m (Some x) h = let b = h.0 in omega (arith, b)
