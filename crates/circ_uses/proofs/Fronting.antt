-- The first items of a shared list.
use Rattle.std.proofs.Common.{◌≡◌, ◌<◌, ◌+◌, ℕ, List, [], ◌∷◌, ◌++◌, zero, suc, map, reverse, length, take, drop, get_or, Result, Ok, Err, refl, ap, sym, ◌∙◌, append_assoc, Global}
use Rattle.std.proofs.lemmas.List.{reverse-append, map-append, drop_more}
use Rattle.std.specs.Result.{IfOk}
use Rattle.std.specs.declared.alloc.AllocError.{AllocError}
use Rattle.std.specs.declared.rc.Rc.{Rc}
use Rattle.circ_theory.specs.Theory.{Theory}
use Rattle.circ_uses.specs.Fronts.{front, shared_in}
use Rattle.circ_uses.specs.Uses.{held_by, entries_of, layer_by, layers_of}
use Rattle.circ_uses.specs.declared.fronts.Front.{Front}
use Rattle.circ_uses.specs.declared.uses.Held.{Held}
use Rattle.circ_uses.specs.declared.uses.Layer.{Layer as Kept}

pub cut_rest : {X : Type 0} (xs r : List X) (c : ℕ) (x : X) → take c xs ≡ r ++ x ∷ [] → take (length r) xs ≡ r
cut_rest xs [] c x e = refl
cut_rest [] (y ∷ r) zero x e = absurd (cc)
cut_rest [] (y ∷ r) (suc c) x e = absurd (cc)
cut_rest (z ∷ xs) (y ∷ r) zero x e = absurd (cc)
cut_rest (z ∷ xs) (y ∷ r) (suc c) x e =
    let h : z ≡ y = cc in let t : take c xs ≡ r ++ x ∷ [] = cc in ap (λ w. w ∷ take (length r) xs) h ∙ ap (λ l. y ∷ l) (cut_rest xs r c x t)

pub entries_last : {A : Type 0} (th : Theory) (h : Rc Held A) (hs : List (Rc Held A)) → entries_of th (hs ++ h ∷ []) ≡ held_by th h.value ∷ entries_of th hs
entries_last {A = A} th h hs = let f = λ (r : Rc Held A). held_by th r.value in ap (map f) (reverse-append hs (h ∷ []))

-- ---- what is shared

-- one item more is copied
pub copied : {T : Type 0} (copy new xs : List (Rc T Global)) (i : ℕ) (x y : Rc T Global) → i < length xs → x ≡ get_or xs i x → new ≡ copy ++ y ∷ []
    → y.value ≡ x.value → shared_in copy ++ shared_in (drop i xs) ≡ shared_in xs → shared_in new ++ shared_in (drop (i + 1) xs) ≡ shared_in xs
copied copy new xs i x y lt is e v inv =
    let rest = shared_in (drop (i + 1) xs) in
    let next : drop i xs ≡ x ∷ drop (i + 1) xs = drop_more xs i x lt ∙ ap (λ z. z ∷ drop (i + 1) xs) (sym is) in
    ap (λ zs. shared_in zs ++ rest) e ∙ ap (λ zs. zs ++ rest) (map-append (λ (r : Rc _ Global). r.value) copy (y ∷ []))
    ∙ append_assoc (shared_in copy) (y.value ∷ []) rest ∙ ap (λ z. shared_in copy ++ z ∷ rest) v ∙ ap (λ zs. shared_in copy ++ shared_in zs) (sym next) ∙ inv

pub shared_last : {T : Type 0} (xs : List (Rc T Global)) (x : Rc T Global) → shared_in (xs ++ x ∷ []) ≡ shared_in xs ++ x.value ∷ []
shared_last xs x = map-append (λ (r : Rc _ Global). r.value) xs (x ∷ [])

pub of_more : {T : Type 0} (r : Result (Front T) AllocError) (zs : List (Rc T Global)) (ws : List T) → shared_in zs ≡ ws → IfOk r (λ f. front f ≡ zs)
    → IfOk r (λ f. shared_in (front f) ≡ ws)
of_more (Ok f) zs ws e h = ap shared_in h ∙ e
of_more (Err x) zs ws e h = tt

viewed : {T X : Type 0} (f : T → X) (xs : List (Rc T Global)) → map (λ (r : Rc T Global). f r.value) (reverse xs) ≡ reverse (map f (shared_in xs))
viewed f [] = refl
viewed f (x ∷ xs) =
    ap (map (λ r. f r.value)) (reverse-append (x ∷ []) xs) ∙ map-append (λ r. f r.value) (reverse xs) (x ∷ []) ∙ ap (λ ys. ys ++ f x.value ∷ []) (viewed f xs)
    ∙ sym (reverse-append (f x.value ∷ []) (map f (shared_in xs)))

-- entries and layers are what is shared
pub entries_shared : (th : Theory) (hs ks : List (Rc Held Global)) → shared_in hs ≡ shared_in ks → entries_of th hs ≡ entries_of th ks
entries_shared th hs ks e = viewed (held_by th) hs ∙ ap (λ vs. reverse (map (held_by th) vs)) e ∙ sym (viewed (held_by th) ks)

pub layers_shared : (th : Theory) (ls ks : List (Rc Kept Global)) → shared_in ls ≡ shared_in ks → layers_of th ls ≡ layers_of th ks
layers_shared th ls ks e = viewed (layer_by th) ls ∙ ap (λ vs. reverse (map (layer_by th) vs)) e ∙ sym (viewed (layer_by th) ks)

pub entries_cut : (th : Theory) (hs : List (Rc Held Global)) (h : Rc Held Global) (ks : List (Rc Held Global))
    → shared_in hs ≡ shared_in ks ++ h.value ∷ [] → entries_of th hs ≡ held_by th h.value ∷ entries_of th ks
entries_cut th hs h ks e = entries_shared th hs (ks ++ h ∷ []) (e ∙ sym (shared_last ks h)) ∙ entries_last th h ks

pub layers_cut : (th : Theory) (ls : List (Rc Kept Global)) (l : Rc Kept Global) (ks : List (Rc Kept Global))
    → shared_in ls ≡ shared_in ks ++ l.value ∷ [] → layers_of th ls ≡ layer_by th l.value ∷ layers_of th ks
layers_cut th ls l ks e =
    layers_shared th ls (ks ++ l ∷ []) (e ∙ sym (shared_last ks l)) ∙ (let f = λ (r : Rc Kept Global). layer_by th r.value in ap (map f) (reverse-append ks (l ∷ [])))
