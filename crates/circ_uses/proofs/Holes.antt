-- The paths of holes, entry by entry.
use Rattle.std.proofs.Common.{◌≡◌, ◌∷◌, ◌++◌, [], ℕ, List, map, reverse, ap, sym, ◌∙◌, append_assoc, append-nil}
use Rattle.std.proofs.lemmas.List.{reverse-append, map-append}
use Rattle.std.specs.declared.rc.Rc.{Rc}
use Rattle.circ_term.specs.Substitution.{Substitution}
use Rattle.circ_theory.specs.Theory.{Theory}
use Rattle.circ_entry.specs.Entries.{Numbered}
use Rattle.circ_expansion.specs.Expand.{holes, hole_path}
use Rattle.circ_uses.specs.Uses.{held_by, entries_of}
use Rattle.circ_uses.specs.declared.uses.Held.{Held}
use Rattle.circ_expansion.proofs.Alike.{ext}

pub same_by : (σ τ : Substitution) → ((n s : ℕ) → σ n s ≡ τ n s) → σ ≡ τ
same_by σ τ h = ext (λ n. ext (λ s. h n s))

holes_last : (cs : List Numbered) (c : Numbered) → holes (cs ++ c ∷ []) ≡ hole_path c.entry.derivative ++ holes cs
holes_last [] c = sym (append-nil (hole_path c.entry.derivative))
holes_last (d ∷ cs) c =
    ap (λ p. p ++ hole_path d.entry.derivative) (holes_last cs c) ∙ append_assoc (hole_path c.entry.derivative) (holes cs) (hole_path d.entry.derivative)

reversed_next : {X : Type 0} (x : X) (xs : List X) → reverse (x ∷ xs) ≡ reverse xs ++ x ∷ []
reversed_next x xs = reverse-append (x ∷ []) xs

-- the hole of the first that is kept is nearest to the root
pub holes_next : {A : Type 0} (th : Theory) (h : Rc Held A) (hs : List (Rc Held A)) → holes (entries_of th (h ∷ hs)) ≡ hole_path (held_by th h.value).entry.derivative ++ holes (entries_of th hs)
holes_next {A = A} th h hs =
    let f = λ (r : Rc Held A). held_by th r.value in
    ap (λ rs. holes (map f rs)) (reversed_next h hs) ∙ ap holes (map-append f (reverse hs) (h ∷ [])) ∙ holes_last (map f (reverse hs)) (f h)
