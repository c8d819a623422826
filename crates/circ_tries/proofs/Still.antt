-- What is known to be normal, by number.
use Rattle.std.proofs.Common.{◌≡◌, ℕ, ◌≤◌, zero, suc, ◌⊎◌, inl, inr, Bool, true, false, List, [], ◌∷◌, ◌++◌, length, get_or, Option, None, Result, Ok, Err, refl, ap, sym, subst, ◌∙◌, arith}
use Rattle.std.specs.Prelude.{slice_set}
use Rattle.std.specs.List.{list_all}
use Rattle.std.specs.Result.{OnOk, OnErr}
use Rattle.std.proofs.lemmas.Bool.{and_parts}
use Rattle.std.specs.Option.{option_map}
use Rattle.circ_term.specs.Tree.{Tree, Trees, Var, App, none, more, list_of}
use Rattle.circ_term.specs.Growing.{Grows}
use Rattle.circ_rewrite.specs.Replacement.{Replacement, placed}
use Rattle.circ_rewrite.specs.Standing.{IsSettled, AreSettled}
use Rattle.circ_rewrite.proofs.Standings.{settled_term}
use Rattle.circ_nodes.specs.Named.{IsNamed, AreNamed}
use Rattle.circ_nodes.proofs.Numbers.{named_one, named_later}
use Rattle.circ_tries.specs.Store.{still_at, HasSameStill, PutsStill, HasStillArgs, AreStill}

pub still_read : (bs : List Bool) (n : ℕ) → get_or bs n false ≡ still_at bs n
still_read [] n = refl
still_read (b ∷ bs) zero = refl
still_read (b ∷ bs) (suc n) = still_read bs n

pub still_past : (bs : List Bool) (n : ℕ) → length bs ≤ n → still_at bs n ≡ false
still_past [] n h = refl
still_past (b ∷ bs) zero h = absurd (omega arith)
still_past (b ∷ bs) (suc n) h = still_past bs n (omega arith)

pub same_push : (bs : List Bool) → HasSameStill bs (bs ++ false ∷ [])
same_push [] zero = refl
same_push [] (suc n) = refl
same_push (b ∷ bs) zero = refl
same_push (b ∷ bs) (suc n) = same_push bs n

pub same_on : (a b c : List Bool) → HasSameStill a b → HasSameStill b c → HasSameStill a c
same_on a b c g h n = h n ∙ g n

pub puts_set : (bs : List Bool) (n : ℕ) → PutsStill n bs (slice_set bs n true)
puts_set [] n m = inr refl
puts_set (b ∷ bs) zero zero = inl refl
puts_set (b ∷ bs) zero (suc m) = inr refl
puts_set (b ∷ bs) (suc n) zero = inr refl
puts_set (b ∷ bs) (suc n) (suc m) = go (puts_set bs n m)
  where
    go : (m ≡ n) ⊎ (still_at (slice_set bs n true) m ≡ still_at bs m) → (suc m ≡ suc n) ⊎ (still_at (slice_set bs n true) m ≡ still_at bs m)
    go (inl a) = inl (ap suc a)
    go (inr a) = inr a

pub puts_on : (n : ℕ) (a b c : List Bool) → HasSameStill a b → PutsStill n b c → PutsStill n a c
puts_on n a b c g h m = go (h m)
  where
    go : (m ≡ n) ⊎ (still_at c m ≡ still_at b m) → (m ≡ n) ⊎ (still_at c m ≡ still_at a m)
    go (inl x) = inl x
    go (inr x) = inr (x ∙ g m)

-- ---- what is known is right

module _ (due : Tree → Option Replacement) where
  -- where nothing is known yet
  pub right_nothing : (nodes : List Tree) (a : List Bool) → a ≡ [] → AreStill due nodes a
  right_nothing nodes a e = λ n k. absurd (let never : false ≡ true = rw e at k in cc)

  pub right_same : (nodes : List Tree) (a b : List Bool) → HasSameStill a b → AreStill due nodes a → AreStill due nodes b
  right_same nodes a b g h = λ n e. h n (sym (g n) ∙ e)

  pub right_put : (nodes : List Tree) (a b : List Bool) (n : ℕ) (t : Tree) → IsNamed nodes n t → IsSettled due t → PutsStill n a b → AreStill due nodes a → AreStill due nodes b
  right_put nodes a b n t named settled g h = λ m e. go m e (g m)
    where
      go : (m : ℕ) → still_at b m ≡ true → (m ≡ n) ⊎ (still_at b m ≡ still_at a m) → (u : Tree) × IsNamed nodes m u × IsSettled due u
      go m e (inl x) = (t, subst (λ k. IsNamed nodes k t) (sym x) named, settled)
      go m e (inr x) = h m (sym x ∙ e)

  -- it was marked, or all is as before
  pub right_marked : {U E : Type 0} (nodes : List Tree) (a b : List Bool) (n : ℕ) (t : Tree) (r : Result U E) → OnOk r (PutsStill n a b) → OnErr r (HasSameStill a b)
      → IsNamed nodes n t → IsSettled due t → AreStill due nodes a → AreStill due nodes b
  right_marked nodes a b n t (Ok u) p s named settled h = right_put nodes a b n t named settled p h
  right_marked nodes a b n t (Err e) p s named settled h = right_same nodes a b s h

  pub right_later : (old new : List Tree) (a : List Bool) → Grows old new → AreStill due old a → AreStill due new a
  right_later old new a g h = λ n e. let there = h n e in (there.0, named_later old new n there.0 g there.1, there.2)

  pub settled_at : (nodes : List Tree) (a : List Bool) (n : ℕ) (t : Tree) → AreStill due nodes a → still_at a n ≡ true → IsNamed nodes n t → IsSettled due t
  settled_at nodes a n t h e named = let there = h n e in subst (IsSettled due) (named_one nodes n there.0 t there.1 named) there.2

  args_settled : (nodes : List Tree) (still : List Bool) (ns : List ℕ) (ts : Trees) → AreStill due nodes still → list_all (still_at still) ns ≡ true → AreNamed nodes ns ts
      → AreSettled due (length (list_of ts)) ts
  args_settled nodes still [] none h a n = tt
  args_settled nodes still [] (more t ts) h a n = absurd n
  args_settled nodes still (m ∷ ns) none h a n = absurd n
  args_settled nodes still (m ∷ ns) (more t ts) h a n =
      let p = and_parts (still_at still m) (list_all (still_at still) ns) a in
      (settled_at nodes still m t h p.0 n.0, args_settled nodes still ns ts h p.1 n.1)

  -- where the arguments are known to be normal, and nothing is due at the root, the term is
  pub whole_settled : (nodes : List Tree) (still : List Bool) (n : ℕ) (t : Tree) → AreStill due nodes still → HasStillArgs nodes still n → IsNamed nodes n t → due t ≡ None → IsSettled due t
  whole_settled nodes still n (Var m s) h a named e = ap (λ o. option_map (placed []) o) e
  whole_settled nodes still n (App f s ts) h a named e = settled_term due f s ts (args_settled nodes still a.0 ts h a.1 (a.2 f s ts named)) e

pub still_args : (nodes : List Tree) (ns : List ℕ) (f s g r : ℕ) (ts us : Trees) → App f s ts ≡ App g r us → AreNamed nodes ns us → AreNamed nodes ns ts
still_args nodes ns f s g r ts us e h = let same : us ≡ ts = cc in subst (AreNamed nodes ns) same h
