-- A table whose terms are found by their fingerprints.
use Rattle.std.specs.Prelude.{◌≡◌, ℕ, zero, suc, ◌+◌, ◌<◌, ◌≤◌, Bool, true, false, ◌||◌, not, if◌then◌else◌, List, [], ◌∷◌, ◌++◌, length, map, take, Option, Some, None, refl}
use Rattle.std.specs.List.{slice_get, AllByRecursion}
use Rattle.std.proofs.lemmas.Bool.{cases_eq, cases_lt}
use Rattle.std.proofs.Common.{◌⊎◌, inl, inr, ap, sym, subst, ◌∙◌, arith, append_assoc, append-nil, length-append, length-take}
use Rattle.std.proofs.lemmas.List.{map-append, length-map}
use Rattle.std.proofs.lemmas.Option.{same_Some}
use Rattle.circ_term.specs.Tree.{Tree, Trees, Var, App, none, more, args_of, list_of, trees_of}
use Rattle.circ_term.specs.Fingerprint.{fingerprint_of}
use Rattle.circ_term.specs.Order.{is_same}
use Rattle.circ_term.proofs.Order.{same_here, same_itself}
use Rattle.circ_term.proofs.Trees.{trees_of-list_of}
use Rattle.circ_proof.specs.Table.{has, number_in, entered, added, all_added, IsNext, AreNext, IsTable, term_limit}
use Rattle.circ_proof.proofs.Tables.{has_front, number_names}
use Rattle.circ_hash_chains.specs.Keys.{IsLastBelow}
use Rattle.circ_replay.specs.Fingerprints.{IsKeyed, Finds}

abbrev Have : List Tree → List Tree → Type 0
Have table ts = AllByRecursion (λ a. has table a ≡ true) ts

have_front : (table rest ts : List Tree) → Have table ts → Have (table ++ rest) ts
have_front table rest [] h = tt
have_front table rest (t ∷ ts) h = (has_front table rest t h.0, have_front table rest ts h.1)

-- the arguments of a term that is there are there
args_there : (before ts : List Tree) → AreNext before ts → (t : Tree) → has ts t ≡ true → Have (before ++ ts) (args_of t)
args_there before [] h t e = absurd (cc)
args_there before (u ∷ ts) h t e = go (is_same t u) refl (args_there (before ++ u ∷ []) ts h.1 t) e
  where
    go : (b : Bool) → is_same t u ≡ b → (has ts t ≡ true → Have ((before ++ u ∷ []) ++ ts) (args_of t)) → (b || has ts t) ≡ true → Have (before ++ u ∷ ts) (args_of t)
    go true s rest e =
        let P : Tree → Type 0 = λ x. Have (before ++ u ∷ ts) (args_of x) in
        subst P (sym (same_here t u s)) (have_front before (u ∷ ts) (args_of u) h.0.arguments)
    go false s rest e =
        let P : List Tree → Type 0 = λ x. Have x (args_of t) in
        subst P (append_assoc before (u ∷ []) ts) (rest e)

-- what is added of a term that is there: nothing
if_there : (table : List Tree) (t : Tree) → has table t ≡ true → entered table t ≡ table
if_there table t e = ap (λ b. if b then table else table ++ t ∷ []) e

module _ (table : List Tree) (closed : (t : Tree) → has table t ≡ true → Have table (args_of t)) where
  mutual
    pub added_there : (t : Tree) → has table t ≡ true → added table t ≡ table
    added_there (Var n s) e = if_there table (Var n s) e
    added_there (App f s ts) e = ap (λ x. entered x (App f s ts)) (all_there ts (closed (App f s ts) e)) ∙ if_there table (App f s ts) e

    all_there : (ts : Trees) → Have table (list_of ts) → all_added table ts ≡ table
    all_there none h = refl
    all_there (more t ts) h = ap (λ x. all_added x ts) (added_there t h.0) ∙ all_there ts h.1

pub nothing_added : (table : List Tree) → IsTable table → (t : Tree) → has table t ≡ true → added table t ≡ table
nothing_added table k t e = added_there table (λ u h. args_there [] table k.in_order u h) t e

-- a term goes behind its arguments
pub added_last : (table : List Tree) (t : Tree) → added table t ≡ entered (all_added table (trees_of (args_of t))) t
added_last table (Var n s) = refl
added_last table (App f s ts) = ap (λ us. entered (all_added table us) (App f s ts)) (sym (trees_of-list_of ts))

-- a term has one number

not_before : (before rest : List Tree) (t : Tree) → has (before ++ rest) t ≡ false → has before t ≡ false
not_before before rest t e = go (has before t) refl
  where
    go : (b : Bool) → has before t ≡ b → has before t ≡ false
    go true h = absurd (let z = has_front before rest t h in cc)
    go false h = h

fresh_at : (before ts : List Tree) → AreNext before ts → (n : ℕ) (t : Tree) → slice_get ts n ≡ Some t → has before t ≡ false
fresh_at before [] h n t e = absurd (cc)
fresh_at before (u ∷ ts) h zero t e = let P : Tree → Type 0 = λ x. has before x ≡ false in subst P (same_Some u t e) h.0.fresh
fresh_at before (u ∷ ts) h (suc n) t e = not_before before (u ∷ []) t (fresh_at (before ++ u ∷ []) ts h.1 n t e)

last_apart : (before : List Tree) (u t : Tree) → has (before ++ u ∷ []) t ≡ false → is_same t u ≡ false
last_apart [] u t e = go (is_same t u) e
  where
    go : (b : Bool) → (b || false) ≡ false → b ≡ false
    go true h = absurd (cc)
    go false h = refl
last_apart (v ∷ before) u t e = last_apart before u t (go (is_same t v) e)
  where
    go : (b : Bool) → (b || has (before ++ u ∷ []) t) ≡ false → has (before ++ u ∷ []) t ≡ false
    go true h = absurd (cc)
    go false h = h

number_at : (before ts : List Tree) → AreNext before ts → (n : ℕ) (t : Tree) → slice_get ts n ≡ Some t → number_in ts t ≡ n
number_at before [] h n t e = absurd (cc)
number_at before (u ∷ ts) h zero t e =
    let P : Tree → Type 0 = λ x. is_same t x ≡ true in
    ap (λ b. if not b then 1 + number_in ts t else 0) (subst P (sym (same_Some u t e)) (same_itself t))
number_at before (u ∷ ts) h (suc n) t e =
    ap (λ b. if not b then 1 + number_in ts t else 0) (last_apart before u t (fresh_at (before ++ u ∷ []) ts h.1 n t e))
    ∙ (let rest = number_at (before ++ u ∷ []) ts h.1 n t e in let q : 1 + number_in ts t ≡ suc n = omega (arith, rest) in q)

has_at : (ts : List Tree) (n : ℕ) (t : Tree) → slice_get ts n ≡ Some t → has ts t ≡ true
has_at [] n t e = absurd (cc)
has_at (u ∷ ts) zero t e = let P : Tree → Type 0 = λ x. (is_same t x || has ts t) ≡ true in subst P (sym (same_Some u t e)) (ap (λ b. b || has ts t) (same_itself t))
has_at (u ∷ ts) (suc n) t e = go (is_same t u) (has_at ts n t e)
  where
    go : (b : Bool) → has ts t ≡ true → (b || has ts t) ≡ true
    go true h = refl
    go false h = h

-- ---- the search for a term

get_map : {X Y : Type 0} (f : X → Y) (xs : List X) (n : ℕ) (x : X) → slice_get xs n ≡ Some x → slice_get (map f xs) n ≡ Some (f x)
get_map f [] n x e = absurd (cc)
get_map f (z ∷ xs) zero x e = ap (λ y. Some (f y)) (same_Some z x e)
get_map f (z ∷ xs) (suc n) x e = get_map f xs n x e

-- the numbers above are none of the term's; at the end none is
abbrev Passed : Option ℕ → (m : ℕ) → Type 0
Passed None m = Unit {0}
Passed (Some n) m = n < m

abbrev pub measure : Option ℕ → ℕ
measure None = 0
measure (Some n) = n + 1

-- The search has come to `last`, whose fingerprint is the term's.
pub record IsSought (table : List Tree) (keys : List ℕ) (t : Tree) (last : Option ℕ) : Type 0 where
  pub within : (n : ℕ) → last ≡ Some n → n < length table
  pub key : (n : ℕ) → last ≡ Some n → slice_get keys n ≡ Some (fingerprint_of t)
  pub others : (m : ℕ) → Passed last m → slice_get table m ≡ Some t → ⊥

module _ (table : List Tree) (keys : List ℕ) (same : keys ≡ map fingerprint_of table) (t : Tree) where
  key_at : (m : ℕ) → slice_get table m ≡ Some t → slice_get keys m ≡ Some (fingerprint_of t)
  key_at m e = ap (λ ks. slice_get ks m) same ∙ get_map fingerprint_of table m t e

  long : length keys ≡ length table
  long = ap length same ∙ length-map table fingerprint_of

  get_within : (ts : List Tree) (m : ℕ) (u : Tree) → slice_get ts m ≡ Some u → m < length ts
  get_within [] m u e = absurd (cc)
  get_within (v ∷ ts) zero u e = omega arith
  get_within (v ∷ ts) (suc m) u e = let h = get_within ts m u e in omega (arith, h)

  pub sought_first : (o : Option ℕ) → IsLastBelow keys (fingerprint_of t) (length keys) o → IsSought table keys t o
  sought_first None h = record {
    within = λ n e. absurd (cc);
    key = λ n e. absurd (cc);
    others = λ m p e. let b = get_within table m t e in h m (omega (arith, b, long)) (key_at m e);
  }
  sought_first (Some k) h = record {
    within = λ n e. let same : k ≡ n = same_Some k n e in omega (arith, same, h.0, long);
    key = λ n e. let P : ℕ → Type 0 = λ x. slice_get keys x ≡ Some (fingerprint_of t) in subst P (same_Some k n e) h.1;
    others = λ m p e. let b = get_within table m t e in h.2 m p (omega (arith, b, long)) (key_at m e);
  }

  pub sought_next : (n : ℕ) → IsSought table keys t (Some n) → (slice_get table n ≡ Some t → ⊥) → (o : Option ℕ)
      → ((k : ℕ) → slice_get keys n ≡ Some k → IsLastBelow keys k n o) → IsSought table keys t o × (measure o < n + 1)
  sought_next n h other o older = go o (older (fingerprint_of t) (h.key n refl))
    where
      on : (m : ℕ) → slice_get table m ≡ Some t → (m < n → ⊥) → ⊥
      on m e apart = at (cases_eq m n)
        where
          at : (m ≡ n) ⊎ (m ≡ n → ⊥) → ⊥
          at (inl s) = other (let P : ℕ → Type 0 = λ x. slice_get table x ≡ Some t in subst P s e)
          at (inr s) = above (cases_lt m n)
            where
              above : (m < n) ⊎ (n ≤ m) → ⊥
              above (inl b) = apart b
              above (inr b) = h.others m (let q : n < m = omega arith in q) e

      go : (o : Option ℕ) → IsLastBelow keys (fingerprint_of t) n o → IsSought table keys t o × (measure o < n + 1)
      go None k = (
        record {
          within = λ m e. absurd (cc);
          key = λ m e. absurd (cc);
          others = λ m p e. on m e (λ b. k m b (key_at m e));
        },
        omega arith,
      )
      go (Some i) k = (
        record {
          within = λ m e. let same : i ≡ m = same_Some i m e in let b = h.within n refl in omega (arith, same, k.0, b);
          key = λ m e. let P : ℕ → Type 0 = λ x. slice_get keys x ≡ Some (fingerprint_of t) in subst P (same_Some i m e) k.1;
          others = λ m p e. on m e (λ b. k.2 m p b (key_at m e));
        },
        omega (arith, k.0),
      )

  pub sought_found : IsTable table → (n : ℕ) → slice_get table n ≡ Some t → Finds table t (Some n)
  sought_found k n e =
      let there = has_at table n t e in (there, sym (number_at [] table k.in_order n t e), nothing_added table k t there)

  -- a term that is there is at the last number that is left
  pub sought_last : (n : ℕ) → has table t ≡ true → IsSought table keys t (Some n) → ((k : ℕ) → slice_get keys n ≡ Some k → IsLastBelow keys k n None)
      → n ≡ number_in table t
  sought_last n there h older = below (cases_lt (number_in table t) n)
    where
      above : (n < number_in table t) ⊎ (number_in table t ≤ n) → n ≤ number_in table t → n ≡ number_in table t
      above (inl b) c = absurd (h.others (number_in table t) b (number_names table t there))
      above (inr b) c = omega arith

      below : (number_in table t < n) ⊎ (n ≤ number_in table t) → n ≡ number_in table t
      below (inl b) = absurd (older (fingerprint_of t) (h.key n refl) (number_in table t) b (key_at (number_in table t) (number_names table t there)))
      below (inr b) = above (cases_lt n (number_in table t)) b

  pub sought_none : has table t ≡ true → IsSought table keys t None → ⊥
  sought_none there h = h.others (number_in table t) tt (number_names table t there)

  pub sought_ended : IsSought table keys t None → Finds table t None
  sought_ended h = go (has table t) refl
    where
      go : (b : Bool) → has table t ≡ b → has table t ≡ false
      go true e = absurd (h.others (number_in table t) tt (number_names table t e))
      go false e = e

-- ---- a term more, and fewer terms

next_push : (before ts : List Tree) (t : Tree) → AreNext before ts → IsNext (before ++ ts) t → AreNext before (ts ++ t ∷ [])
next_push before [] t h k = let P : List Tree → Type 0 = λ x. IsNext x t in (subst P (append-nil before) k, tt)
next_push before (u ∷ ts) t h k =
    let P : List Tree → Type 0 = λ x. IsNext x t in (h.0, next_push (before ++ u ∷ []) ts t h.1 (subst P (sym (append_assoc before (u ∷ []) ts)) k))

pub keyed_push : (table : List Tree) (keys : List ℕ) (t : Tree) → IsKeyed table keys → IsNext table t → length table < term_limit
    → IsKeyed (table ++ t ∷ []) (keys ++ fingerprint_of t ∷ [])
keyed_push table keys t k next room = record {
  table = let l = length-append table (t ∷ []) in record { few = omega (arith, l, room); in_order = next_push [] table t k.table.in_order next };
  keys = ap (λ ks. ks ++ fingerprint_of t ∷ []) k.keys ∙ sym (map-append fingerprint_of table (t ∷ []));
}

next_take : (n : ℕ) (before ts : List Tree) → AreNext before ts → AreNext before (take n ts)
next_take zero before ts h = tt
next_take (suc n) before [] h = tt
next_take (suc n) before (t ∷ ts) h = (h.0, next_take n (before ++ t ∷ []) ts h.1)

map_take : {X Y : Type 0} (f : X → Y) (n : ℕ) (xs : List X) → take n (map f xs) ≡ map f (take n xs)
map_take f zero xs = refl
map_take f (suc n) [] = refl
map_take f (suc n) (x ∷ xs) = ap (λ ys. f x ∷ ys) (map_take f n xs)

pub keyed_take : (n : ℕ) (table : List Tree) (keys : List ℕ) → IsKeyed table keys → IsKeyed (take n table) (take n keys)
keyed_take n table keys k = record {
  table = let l = length-take n table in record { few = omega (arith, l, k.table.few); in_order = next_take n [] table k.table.in_order };
  keys = ap (take n) k.keys ∙ map_take fingerprint_of n table;
}
