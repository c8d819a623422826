-- Items that are taken or passed one after another.
use Rattle.std.specs.Prelude.{◌≡◌, List, [], ◌∷◌, ◌++◌}
use Rattle.std.proofs.Common.{ap, sym, subst, ◌∙◌, append_assoc, append-nil}
use Rattle.circ_contexts.specs.Candidates.{AddsKept}
use Rattle.circ_plain_search.specs.Keeps.{Keeps, ends, keeps, drops}
use Rattle.circ_plain_search.proofs.Keeping.{kept_append}

pub adds_start : {X : Type 0} (P : X → Type 0) (whole old : List X) → AddsKept P whole whole old old
adds_start P whole old = record { added = []; items = sym (append-nil old); kept = λ ys k. k }

module _ {X : Type 0} (P : X → Type 0) (whole rest next old new : List X) (x : X) (e : rest ≡ x ∷ next) (a : AddsKept P whole rest old new) where
  pub adds_kept : P x → AddsKept P whole next old (new ++ x ∷ [])
  adds_kept p = record {
    added = a.added ++ x ∷ [];
    items = ap (λ xs. xs ++ x ∷ []) a.items ∙ append_assoc old a.added (x ∷ []);
    kept = λ ys k.
        let Q : List X → Type 0 = λ xs. Keeps P xs (x ∷ ys) in
        subst (Keeps P whole) (sym (append_assoc a.added (x ∷ []) ys)) (a.kept (x ∷ ys) (subst Q (sym e) (keeps x p k)));
  }

  pub adds_dropped : (P x → ⊥) → AddsKept P whole next old new
  adds_dropped n = record {
    added = a.added;
    items = a.items;
    kept = λ ys k. let Q : List X → Type 0 = λ xs. Keeps P xs ys in a.kept ys (subst Q (sym e) (drops x n k));
  }

-- those of a part, and then those of the rest
pub adds_more : {X : Type 0} (P : X → Type 0) (whole rest part next old mid new : List X) → rest ≡ part ++ next → AddsKept P whole rest old mid
    → AddsKept P part [] mid new → AddsKept P whole next old new
adds_more {X = X} P whole rest part next old mid new e a b = record {
  added = a.added ++ b.added;
  items = b.items ∙ ap (λ xs. xs ++ b.added) a.items ∙ append_assoc old a.added b.added;
  kept = λ ys k.
      let here : Keeps P part b.added = subst (Keeps P part) (append-nil b.added) (b.kept [] ends) in
      let Q : List X → Type 0 = λ xs. Keeps P xs (b.added ++ ys) in
      subst (Keeps P whole) (sym (append_assoc a.added b.added ys)) (a.kept (b.added ++ ys) (subst Q (sym e) (kept_append P here k)));
}

pub adds_last : {X : Type 0} (P : X → Type 0) (whole rest new : List X) → rest ≡ [] → AddsKept P whole rest [] new → Keeps P whole new
adds_last {X = X} P whole rest new e a =
    let Q : List X → Type 0 = λ xs. Keeps P xs [] in
    subst (Keeps P whole) (append-nil a.added ∙ sym a.items) (a.kept [] (subst Q (sym e) ends))

-- so far as no more is to come
pub adds_all : {X : Type 0} (P : X → Type 0) (whole rest old new : List X) → rest ≡ [] → AddsKept P whole rest old new → AddsKept P whole [] old new
adds_all {X = X} P whole rest old new e a = let Q : List X → Type 0 = λ xs. AddsKept P whole xs old new in subst Q e a
