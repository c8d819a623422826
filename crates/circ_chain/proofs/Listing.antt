-- Listing the traces of a term: those of its arguments, each by itself, then the replacement at the root and what follows it.
use Rattle.std.proofs.Common.{◌≡◌, ℕ, ◌+◌, max, zero, suc, List, [], ◌∷◌, ◌++◌, map, drop, length, Option, Some, refl, ap, sym, subst, ◌∙◌, arith, append_assoc, append-nil}
use Rattle.std.proofs.lemmas.List.{map-append, length-set}
use Rattle.std.proofs.lemmas.Option.{same_Some}
use Rattle.std.specs.Prelude.{slice_set}
use Rattle.std.specs.List.{slice_get}
use Rattle.circ_term.specs.Tree.{Tree, Trees, App, list_of, put_at, size_of, depth_of}
use Rattle.circ_term.proofs.Trees.{list_of-trees_of}
use Rattle.circ_rewrite.specs.Replacement.{Replacement, Traced, placed, traced}
use Rattle.circ_rewrite.specs.Standing.{IsSettled, HasSettledBelow}
use Rattle.circ_chain.specs.Chain.{under, Chain, Reduces}
use Rattle.circ_chain.specs.Through.{Readies}
use Rattle.circ_chain.specs.Listed.{Lists, ListsThrough}
use Rattle.circ_chain.proofs.Chains.{chain_on, chain_weaken}
use Rattle.circ_chain.proofs.Settling.{through_next, through_end}
use Rattle.circ_chain.proofs.Roots.{root_step}
use Rattle.circ_chain.proofs.Unique.{reduces_unique, readies_unique}

-- a path in a term at a path
under_twice : (p q : List ℕ) (ts : List Traced) → map (under (p ++ q)) ts ≡ map (under p) (map (under q) ts)
under_twice p q [] = refl
under_twice p q (tr ∷ ts) =
    ap (λ r. record { path = r; reason = tr.reason } ∷ map (under (p ++ q)) ts) (append_assoc p q tr.path) ∙ ap (λ us. under p (under q tr) ∷ us) (under_twice p q ts)

under_top : (ts : List Traced) → map (under []) ts ≡ ts
under_top [] = refl
under_top (tr ∷ ts) = ap (λ us. tr ∷ us) (under_top ts)

-- two lists of traces, one after the other
listed_on : (p : List ℕ) (old mid new ts us : List Traced) → mid ≡ old ++ map (under p) ts → new ≡ mid ++ map (under p) us → new ≡ old ++ map (under p) (ts ++ us)
listed_on p old mid new ts us a b =
    b ∙ ap (λ x. x ++ map (under p) us) a ∙ append_assoc old (map (under p) ts) (map (under p) us) ∙ ap (λ x. old ++ x) (sym (map-append (under p) ts us))

drop_cons : {X : Type 0} (xs ys : List X) (i : ℕ) (x : X) → drop i xs ≡ x ∷ ys → slice_get xs i ≡ Some x
drop_cons [] ys zero x e = absurd (cc)
drop_cons [] ys (suc i) x e = absurd (cc)
drop_cons (z ∷ xs) ys zero x e = cc
drop_cons (z ∷ xs) ys (suc i) x e = drop_cons xs ys i x e

get_drop : {X : Type 0} (xs : List X) (i : ℕ) (x : X) → slice_get xs i ≡ Some x → drop i xs ≡ x ∷ drop (suc i) xs
get_drop [] i x g = absurd (cc)
get_drop (z ∷ xs) zero x g = ap (λ y. y ∷ xs) (same_Some z x g)
get_drop (z ∷ xs) (suc i) x g = get_drop xs i x g

-- what was not touched is as it was
get_kept : {X : Type 0} (xs ys : List X) (i : ℕ) (x : X) → drop i xs ≡ drop i ys → slice_get ys i ≡ Some x → slice_get xs i ≡ Some x
get_kept xs ys i x e g = drop_cons xs (drop (suc i) ys) i x (e ∙ get_drop ys i x g)

drop_more : {X : Type 0} (xs : List X) (i : ℕ) → drop (suc i) xs ≡ drop 1 (drop i xs)
drop_more [] zero = refl
drop_more [] (suc i) = refl
drop_more (x ∷ xs) zero = refl
drop_more (x ∷ xs) (suc i) = drop_more xs i

drop_next : {X : Type 0} (xs ys : List X) (i : ℕ) → drop i xs ≡ drop i ys → drop (i + 1) xs ≡ drop (i + 1) ys
drop_next xs ys i e =
    let z : suc i ≡ i + 1 = omega arith in
    subst (λ n. drop n xs ≡ drop n ys) z (drop_more xs i ∙ ap (drop 1) e ∙ sym (drop_more ys i))

drop_set : {X : Type 0} (xs : List X) (i : ℕ) (x : X) → drop (i + 1) (slice_set xs i x) ≡ drop (i + 1) xs
drop_set xs i x =
    let z : suc i ≡ i + 1 = omega arith in
    subst (λ n. drop n (slice_set xs i x) ≡ drop n xs) z (go xs i x)
  where
    go : {X : Type 0} (xs : List X) (i : ℕ) (x : X) → drop (suc i) (slice_set xs i x) ≡ drop (suc i) xs
    go [] i x = refl
    go (y ∷ xs) zero x = refl
    go (y ∷ xs) (suc i) x = go xs i x

module _ (due : Tree → Option Replacement) where
  pub lists_start : (p : List ℕ) (t : Tree) (old : List Traced) → Lists due p t t old old
  lists_start p t old = record { big = 0; deep = 0; traces = []; chain = refl; listed = sym (append-nil old) }

  pub lists_on : (p : List ℕ) (t u v : Tree) (old mid new : List Traced) → Lists due p t u old mid → Lists due p u v mid new → Lists due p t v old new
  lists_on p t u v old mid new g h = record {
    big = max g.big h.big;
    deep = max g.deep h.deep;
    traces = g.traces ++ h.traces;
    chain =
        chain_on due (max g.big h.big) (max g.deep h.deep) g.traces h.traces t u v
        (chain_weaken due g.big g.deep (max g.big h.big) (max g.deep h.deep) g.traces t u (omega arith) (omega arith) g.chain)
        (chain_weaken due h.big h.deep (max g.big h.big) (max g.deep h.deep) h.traces u v (omega arith) (omega arith) h.chain);
    listed = listed_on p old mid new g.traces h.traces g.listed h.listed;
  }

  -- the replacement at the root of a term whose arguments are settled
  pub lists_root : (p : List ℕ) (u : Tree) (d : Replacement) (old : List Traced) → HasSettledBelow due u → due u ≡ Some d
      → Lists due p u d.new old (old ++ traced (placed p d) ∷ [])
  lists_root p u d old h e = record {
    big = size_of d.new;
    deep = depth_of d.new;
    traces = traced (placed [] d) ∷ [];
    chain = (d.new, root_step due (size_of d.new) (depth_of d.new) u d h e (omega arith) (omega arith), refl);
    listed = ap (λ q. old ++ traced (placed q d) ∷ []) (sym (append-nil p));
  }

  -- argument i still stands
  lists_stands : (p : List ℕ) (f s i : ℕ) (ts us : Trees) (a : Tree) (old new : List Traced) → ListsThrough due p f s i ts us old new → slice_get (list_of ts) i ≡ Some a
      → slice_get (list_of us) i ≡ Some a
  lists_stands p f s i ts us a old new h g = get_kept (list_of us) (list_of ts) i a h.rest g

  -- the traces of argument i
  pub lists_arg : (p : List ℕ) (f s i : ℕ) (ts us : Trees) (a v : Tree) (old mid new : List Traced) → ListsThrough due p f s i ts us old mid → slice_get (list_of ts) i ≡ Some a
      → Lists due (p ++ i ∷ []) a v mid new → IsSettled due v → ListsThrough due p f s (i + 1) ts (put_at us i v) old new
  lists_arg p f s i ts us a v old mid new g get h settled =
      let big : ℕ = g.big + (size_of (App f s us) + h.big) in
      let deep : ℕ = g.deep + (depth_of (App f s us) + (1 + h.deep)) in
      let stands = lists_stands p f s i ts us a old mid g get in
      record {
        big = big;
        deep = deep;
        traces = g.traces ++ map (under (i ∷ [])) h.traces;
        through =
            through_next due g.big g.deep h.big h.deep big deep (App f s ts) g.traces f s i us a v h.traces g.through stands (h.chain, settled) (omega arith) (omega arith)
            (omega arith) (omega arith) (omega arith);
        listed = listed_on p old mid new g.traces (map (under (i ∷ [])) h.traces) g.listed (h.listed ∙ ap (λ x. mid ++ x) (under_twice p (i ∷ []) h.traces));
        rest = ap (drop (i + 1)) (list_of-trees_of (slice_set (list_of us) i v)) ∙ drop_set (list_of us) i v ∙ drop_next (list_of us) (list_of ts) i g.rest;
        count = ap length (list_of-trees_of (slice_set (list_of us) i v)) ∙ length-set (list_of us) i v ∙ g.count;
      }

  -- all arguments are listed: the term that stands now is the one that is known to be ready
  pub lists_args_end : (b d : ℕ) (p : List ℕ) (f s i : ℕ) (ts us : Trees) (u : Tree) (known old new : List Traced) → ListsThrough due p f s i ts us old new
      → i ≡ length (list_of ts) → Readies due b d (App f s ts) known u → Lists due p (App f s ts) u old new
  lists_args_end b d p f s i ts us u known old new g e r =
      let end = through_end due g.big g.deep (App f s ts) g.traces f s i us g.through (e ∙ sym g.count) in
      let same = readies_unique due g.big g.deep b d g.traces known (App f s ts) (App f s us) u end r in
      record { big = g.big; deep = g.deep; traces = g.traces; chain = subst (λ x. Chain due g.big g.deep (App f s ts) g.traces x) same.1 g.through.chain; listed = g.listed }

  -- What is listed up to a settled term are the traces of the normal form.
  pub lists_end : (b d : ℕ) (p : List ℕ) (t v x : Tree) (ts old new : List Traced) → Lists due p t v old new → IsSettled due v → Reduces due b d t ts x
      → (new ≡ old ++ map (under p) ts) × (v ≡ x)
  lists_end b d p t v x ts old new h settled r =
      let same = reduces_unique due h.big h.deep b d h.traces ts t v x (h.chain, settled) r in
      (h.listed ∙ ap (λ y. old ++ map (under p) y) same.0, same.1)

  -- the same of a whole term, from nothing
  pub lists_all : (b d : ℕ) (t v x : Tree) (ts new : List Traced) → Lists due [] t v [] new → IsSettled due v → Reduces due b d t ts x → new ≡ ts
  lists_all b d t v x ts new h settled r = (lists_end b d [] t v x ts [] new h settled r).0 ∙ under_top ts
