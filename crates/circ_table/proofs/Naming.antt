-- The terms that are asked for, one after another.
use Rattle.std.specs.Prelude.{◌≡◌, ℕ, zero, suc, ◌+◌, ◌<◌, List, [], ◌∷◌, ◌++◌, length, drop, slice_set, Some, refl}
use Rattle.std.specs.List.{slice_get, AllByRecursion}
use Rattle.std.proofs.Common.{ap, sym, subst, ◌∙◌, arith, ◌⊎◌, inl, inr, append_assoc, append-nil, length-append, get_or}
use Rattle.std.proofs.lemmas.Bool.{cases_eq}
use Rattle.std.proofs.lemmas.Option.{same_Some}
use Rattle.circ_term.specs.Tree.{Tree, args_of}
use Rattle.circ_term.proofs.Within.{drop_read}
use Rattle.circ_table.specs.declared.named.TheConstants.{ABSENT}
use Rattle.circ_term.specs.Growing.{Grows}
use Rattle.circ_table.specs.Table.{firsts_at, IsIn, AreIn}
use Rattle.circ_table.specs.Placed.{IsPlaced, ArePlacesOf, ArePlaced}
use Rattle.circ_hash_chains.proofs.Lists.{get_front, get_put, get_other}
use Rattle.circ_table.proofs.Firsts.{get_seam, firsts_next, first_parts}

-- ---- places

pub placed_made : (table terms : List Tree) (places new : List ℕ) → ArePlaced table terms places → ArePlacesOf places new → ArePlaced table terms new
placed_made table terms places new h kept = record {
  few = h.few;
  in_table = h.in_table;
  placed = λ n p e. go n p (kept n p e);
}
  where
    go : (n p : ℕ) → (p ≡ ABSENT) ⊎ (slice_get places n ≡ Some p) → IsPlaced table terms n p
    go n p (inl e) = inl e
    go n p (inr e) = h.placed n p e

are_in_push : (table terms : List Tree) (t : Tree) → AreIn table terms → IsIn table t → AreIn table (terms ++ t ∷ [])
are_in_push table [] t h k = (k, tt)
are_in_push table (u ∷ terms) t h k = (h.0, are_in_push table terms t h.1 k)

pub placed_put : (table terms : List Tree) (places : List ℕ) (number : ℕ) (t : Tree) → ArePlaced table terms places → slice_get table number ≡ Some t
    → length terms < ABSENT → ArePlaced table (terms ++ t ∷ []) (slice_set places number (length terms))
placed_put table terms places number t h named room = record {
  few = let l = length-append terms (t ∷ []) in omega arith;
  in_table = are_in_push table terms t h.in_table (number, named);
  placed = λ n p e. go n p e (cases_eq number n);
}
  where
    longer : (n p : ℕ) → IsPlaced table terms n p → IsPlaced table (terms ++ t ∷ []) n p
    longer n p (inl e) = inl e
    longer n p (inr k) = inr (k.0, get_front terms (t ∷ []) p k.0 k.1, k.2)

    go : (n p : ℕ) → slice_get (slice_set places number (length terms)) n ≡ Some p → (number ≡ n) ⊎ (number ≡ n → ⊥) → IsPlaced table (terms ++ t ∷ []) n p
    go n p e (inr apart) = longer n p (h.placed n p (get_other places number n (length terms) p apart e))
    go n p e (inl same) =
        let put : length terms ≡ p = get_put places number (length terms) p (ap (slice_get (slice_set places number (length terms))) same ∙ e) in
        inr (t, let P : ℕ → Type 0 = λ k. slice_get (terms ++ t ∷ []) k ≡ Some t in subst P put (get_seam terms t []), ap (slice_get table) (sym same) ∙ named)

-- ---- growing lists

pub grows_self : (terms : List Tree) → Grows terms terms
grows_self terms = ([], sym (append-nil terms))

pub grows_more : (a b c : List Tree) → Grows a b → Grows b c → Grows a c
grows_more a b c g h = (g.0 ++ h.0, h.1 ∙ ap (λ terms. terms ++ h.0) g.1 ∙ append_assoc a g.0 h.0)

-- ---- the arguments of a term

pub all_at : (bound : ℕ) (ns : List ℕ) (i : ℕ) → AllByRecursion (λ n. n < bound) ns → i < length ns → get_or ns i 0 < bound
all_at bound [] i h b = absurd (omega arith)
all_at bound (n ∷ ns) zero h b = h.0
all_at bound (n ∷ ns) (suc i) h b = all_at bound ns i h.1 (omega arith)

-- those so far, and what is left
abbrev pub Gathered : (table : List Tree) (number : ℕ) (rest : List ℕ) (args : List Tree) → Type 0
Gathered table number rest args =
    (t : Tree) → slice_get table number ≡ Some t → (us : List Tree) × (firsts_at table rest ≡ Some us) × (args ++ us ≡ args_of t)

pub gathered_none : (table : List Tree) (number : ℕ) (ns : List ℕ) → ((t : Tree) → slice_get table number ≡ Some t → firsts_at table ns ≡ Some (args_of t)) → Gathered table number ns []
gathered_none table number ns h t e = (args_of t, h t e, refl)

pub gathered_more : (table : List Tree) (number : ℕ) (ns : List ℕ) (i n : ℕ) (args new : List Tree) (u : Tree) → i < length ns → n ≡ get_or ns i n → slice_get table n ≡ Some u → new ≡ args ++ u ∷ []
    → Gathered table number (drop i ns) args → Gathered table number (drop (i + 1) ns) new
gathered_more table number ns i n args new u b read named is h t e =
    let p = h t e in
    let P : List ℕ → Type 0 = λ xs. firsts_at table xs ≡ Some p.0 in
    let q = firsts_next table n (drop (i + 1) ns) p.0 (subst P (drop_read ns i n b read) p.1) in
    let same : u ≡ q.0 = same_Some u q.0 (sym named ∙ (first_parts table n q.0 q.2).0) in (
      q.1,
      q.3,
      ap (λ x. x ++ q.1) is ∙ append_assoc args (u ∷ []) q.1 ∙ ap (λ x. args ++ x ∷ q.1) same ∙ ap (λ x. args ++ x) (sym q.4) ∙ p.2,
    )

pub gathered_all : (table : List Tree) (number : ℕ) (args : List Tree) (t : Tree) → Gathered table number [] args → slice_get table number ≡ Some t → args ≡ args_of t
gathered_all table number args t h e =
    let p = h t e in sym (append-nil args) ∙ ap (λ x. args ++ x) (same_Some [] p.0 p.1) ∙ p.2
