-- Special paths go on at places of the set, and stay where the subterm at their end is replaced.
use Rattle.std.proofs.Common.{◌≡◌, ℕ, Bool, true, false, ◌==◌, ◌&&◌, ◌||◌, List, [], ◌∷◌, ◌++◌, Option, Some, refl, ap, sym, subst, ◌∙◌}
use Rattle.std.specs.List.{slice_get, Contains}
use Rattle.std.proofs.lemmas.Bool.{and_parts, eqb-true}
use Rattle.std.proofs.lemmas.Option.{same_Some}
use Rattle.circ_term.specs.Tree.{Tree, Trees, Var, App, list_of, put_at, walk, at, replaced}
use Rattle.circ_term.proofs.Paths.{Deeper, deeper, at_replaced}
use Rattle.circ_theory.proofs.Casing.{contains_first, contains_next}
use Rattle.circ_special.specs.declared.place.Place.{Place}
use Rattle.circ_special.specs.Special.{place, IsSpecial}
use Rattle.circ_plain_search.specs.Joining.{is_place}

-- the test tells places of the set
pub place_there : (G : List Place) (f i : ℕ) → is_place G f i ≡ true → Contains G (place f i)
place_there [] f i e = absurd (cc)
place_there (g ∷ G) f i e = go ((g.op == f) && (g.arg == i)) refl (place_there G f i) e
  where
    go : (b : Bool) → ((g.op == f) && (g.arg == i)) ≡ b → (is_place G f i ≡ true → Contains G (place f i)) → (b || is_place G f i) ≡ true
        → Contains (g ∷ G) (place f i)
    go true x ih y =
        let p = and_parts (g.op == f) (g.arg == i) x in
        let is : g ≡ place f i = ap (λ n. place n g.arg) (eqb-true g.op f p.0) ∙ ap (place f) (eqb-true g.arg i p.1) in
        subst (Contains (g ∷ G)) is (contains_first g G)
    go false x ih y = contains_next g (place f i) G (ih y)

pub special_deeper : (G : List Place) (q : List ℕ) (t : Tree) (f s : ℕ) (ts : Trees) (i : ℕ) (a : Tree) → IsSpecial G t q → at t q ≡ Some (App f s ts)
    → Contains G (place f i) → slice_get (list_of ts) i ≡ Some a → IsSpecial G t (q ++ i ∷ [])
special_deeper G [] t f s ts i a sp e c g =
    let P : Tree → Type 0 = λ x. IsSpecial G x (i ∷ []) in
    subst P (sym (same_Some t (App f s ts) e)) (c, a, g, tt)
special_deeper G (j ∷ q) (Var n k) f s ts i a sp e c g = absurd sp
special_deeper G (j ∷ q) (App h k us) f s ts i a sp e c g =
    (sp.0, sp.1, sp.2, special_deeper G q sp.1 f s ts i a sp.3 (sym (ap (λ o. walk o q) sp.2) ∙ e) c g)

get_new : (f s : ℕ) (ts : Trees) (i : ℕ) (a b : Tree) → slice_get (list_of ts) i ≡ Some a → slice_get (list_of (put_at ts i b)) i ≡ Some b
get_new f s ts i a b g = at_replaced (i ∷ []) (App f s ts) b (App f s (put_at ts i b)) (rw g refl)

pub special_replaced : (G : List Place) (q : List ℕ) (t u v : Tree) → replaced t q u ≡ Some v → IsSpecial G t q → IsSpecial G v q
special_replaced G [] t u v e sp = tt
special_replaced G (i ∷ q) (Var n s) u v e sp = absurd sp
special_replaced G (i ∷ q) (App f s ts) u v e sp =
    let d : Deeper (App f s ts) i q u v = deeper (App f s ts) i q u v e in
    let P : Tree → Type 0 = λ x. IsSpecial G x (i ∷ q) in
    let there : IsSpecial G (App d.op d.sort d.args) (i ∷ q) = subst P d.is sp in
    let same : there.1 ≡ d.arg = same_Some there.1 d.arg (sym there.2 ∙ d.got) in
    let Q : Tree → Type 0 = λ x. IsSpecial G x q in
    let below : IsSpecial G d.new q = special_replaced G q d.arg u d.new d.made (subst Q same there.3) in
    subst P (sym d.whole) (there.0, d.new, get_new d.op d.sort d.args i d.arg d.new d.got, below)

-- an argument of what stands at a path
pub at_deeper : (q : List ℕ) (t : Tree) (f s : ℕ) (ts : Trees) (i : ℕ) (a : Tree) → at t q ≡ Some (App f s ts) → slice_get (list_of ts) i ≡ Some a
    → at t (q ++ i ∷ []) ≡ Some a
at_deeper q t f s ts i a e g = go q (Some t) e
  where
    go : (r : List ℕ) (o : Option Tree) → walk o r ≡ Some (App f s ts) → walk o (r ++ i ∷ []) ≡ Some a
    go [] o x = rw x g
    go (j ∷ r) o x = go r (walk o (j ∷ [])) x
