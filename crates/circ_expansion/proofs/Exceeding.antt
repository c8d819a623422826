-- A whole term within which a term past a limit is put.
use Rattle.std.proofs.Common.{◌≡◌, ℕ, ◌+◌, zero, suc, List, [], ◌∷◌, Option, Some, None, unwrap_or, refl, ap, sym, ◌∙◌}
use Rattle.std.specs.List.{slice_get}
use Rattle.std.specs.Option.{option_and_then}
use Rattle.circ_term.specs.Tree.{Tree, Trees, Var, App, none, more, list_of, trees_of, at, walk, replaced, with_arg, put_at}
use Rattle.circ_term.specs.Limits.{Limit, first_limit, first_limits, limit_at, or_else, Names}
use Rattle.circ_term.specs.Tree.{sizes_of, depths_of}
use Rattle.circ_term.specs.declared.fault.TermFault.{TermFault}
use Rattle.circ_term.specs.declared.fault.TermFault.TheVariants.{TooBig, TooDeep, Memory}
use Rattle.circ_term.proofs.Paths.{walk_none}
use Rattle.circ_expansion.specs.Followed.{put_or_same}
use Rattle.circ_expansion.proofs.Putting.{put_there}

pub first_none : (a b : Option Limit) → or_else a b ≡ None → a ≡ None
first_none None b e = refl
first_none (Some l) b e = absurd (cc)

pub second_none : (a b : Option Limit) → or_else a b ≡ None → b ≡ None
second_none None b e = e
second_none (Some l) b e = absurd (cc)

arg_within : (ts : Trees) (i : ℕ) (b : Tree) → first_limits ts ≡ None → slice_get (list_of ts) i ≡ Some b → first_limit b ≡ None
arg_within none i b w e = absurd (cc)
arg_within (more t ts) zero b w e = let z : t ≡ b = cc in ap first_limit (sym z) ∙ first_none (first_limit t) (first_limits ts) w
arg_within (more t ts) (suc i) b w e = arg_within ts i b (second_none (first_limit t) (first_limits ts) w) e

limits_set : (ts : Trees) (i : ℕ) (b x : Tree) (l : Limit) → first_limits ts ≡ None → slice_get (list_of ts) i ≡ Some b → first_limit x ≡ Some l
    → first_limits (put_at ts i x) ≡ Some l
limits_set none i b x l w e h = absurd (cc)
limits_set (more t ts) zero b x l w e h = ap (λ o. or_else o (first_limits (trees_of (list_of ts)))) h
limits_set (more t ts) (suc i) b x l w e h =
    ap (λ o. or_else o (first_limits (put_at ts i x))) (first_none (first_limit t) (first_limits ts) w)
    ∙ limits_set ts i b x l (second_none (first_limit t) (first_limits ts) w) e h

pub limit_put : (p : List ℕ) (w a x : Tree) (l : Limit) → first_limit w ≡ None → at w p ≡ Some a → first_limit x ≡ Some l
    → first_limit (put_or_same w p x) ≡ Some l
limit_put [] w a x l n e h = h
limit_put (i ∷ p) (Var m s) a x l n e h = absurd (let z = sym (walk_none p) ∙ e in cc)
limit_put (i ∷ p) (App f s ts) a x l n e h = go (slice_get (list_of ts) i) refl (λ b. limit_put p b a x l)
  where
    go : (o : Option Tree) → slice_get (list_of ts) i ≡ o
        → ((b : Tree) → first_limit b ≡ None → at b p ≡ Some a → first_limit x ≡ Some l → first_limit (put_or_same b p x) ≡ Some l)
        → first_limit (put_or_same (App f s ts) (i ∷ p) x) ≡ Some l
    go None g ih = absurd (let z = sym (walk_none p) ∙ ap (λ o. walk o p) (sym g) ∙ e in cc)
    go (Some b) g ih =
        let within : first_limits ts ≡ None = first_none (first_limits ts) (limit_at (sizes_of ts + 1) (depths_of ts + 1)) n in
        let there : at b p ≡ Some a = ap (λ o. walk o p) (sym g) ∙ e in
        let made : replaced (App f s ts) (i ∷ p) x ≡ Some (App f s (put_at ts i (put_or_same b p x))) =
        ap (λ o. with_arg (App f s ts) i (option_and_then (λ y. replaced y p x) o)) g ∙ ap (with_arg (App f s ts) i) (put_there p b a x there) in
        let low = ih b (arg_within ts i b within g) there h in
        ap (λ o. first_limit (unwrap_or o (App f s ts))) made
        ∙ ap (λ o. or_else o (limit_at (sizes_of (put_at ts i (put_or_same b p x)) + 1) (depths_of (put_at ts i (put_or_same b p x)) + 1)))
        (limits_set ts i b (put_or_same b p x) l within g low)

pub nowhere_put : (p : List ℕ) (w x : Tree) → at w p ≡ None → put_or_same w p x ≡ w
nowhere_put p w x e = ap (λ o. unwrap_or o w) (no_place p w x e)
  where
    no_place : (p : List ℕ) (w x : Tree) → at w p ≡ None → replaced w p x ≡ None
    no_place [] w x e = absurd (cc)
    no_place (i ∷ p) (Var m s) x e = refl
    no_place (i ∷ p) (App f s ts) x e = go (slice_get (list_of ts) i) refl (λ b. no_place p b x)
      where
        go : (o : Option Tree) → slice_get (list_of ts) i ≡ o → ((b : Tree) → at b p ≡ None → replaced b p x ≡ None)
            → with_arg (App f s ts) i (option_and_then (λ y. replaced y p x) (slice_get (list_of ts) i)) ≡ None
        go None g ih = ap (λ o. with_arg (App f s ts) i (option_and_then (λ y. replaced y p x) o)) g
        go (Some b) g ih =
            ap (λ o. with_arg (App f s ts) i (option_and_then (λ y. replaced y p x) o)) g
            ∙ ap (with_arg (App f s ts) i) (ih b (ap (λ o. walk o p) (sym g) ∙ e))

pub names_put : (p : List ℕ) (w a x : Tree) (e : TermFault) → first_limit w ≡ None → at w p ≡ Some a → Names e (first_limit x)
    → Names e (first_limit (put_or_same w p x))
names_put p w a x (TooBig n) i h g = limit_put p w a x _ i h g
names_put p w a x (TooDeep n) i h g = limit_put p w a x _ i h g
names_put p w a x Memory i h g = tt
