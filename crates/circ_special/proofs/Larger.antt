-- In a larger set more paths are special, and more is guarded.
use Rattle.std.specs.Prelude.{ℕ, List, [], ◌∷◌}
use Rattle.circ_term.specs.Tree.{Tree, Var, App}
use Rattle.circ_theory.specs.Theory.{Theory}
use Rattle.circ_special.specs.declared.place.Place.{Place}
use Rattle.circ_special.specs.Special.{IsSpecial, IsWithin, place}
use Rattle.circ_special.specs.Guarded.{IsGuardedAt, by_visible, by_place, by_hidden, Guarded}

pub special_more : (G F : List Place) → IsWithin G F → (t : Tree) (p : List ℕ) → IsSpecial G t p → IsSpecial F t p
special_more G F w t [] h = tt
special_more G F w (Var n s) (i ∷ p) h = absurd h
special_more G F w (App f s ts) (i ∷ p) h = (w (place f i) h.0, h.1, h.2, special_more G F w h.1 p h.3)

pub guarded_more : (th : Theory) (G F : List Place) → IsWithin G F → (t : Tree) (n s : ℕ) → Guarded th G t n s → Guarded th F t n s
guarded_more th G F w t n s g p e = more (g p e)
  where
    more : IsGuardedAt th G t n s p → IsGuardedAt th F t n s p
    more (by_visible d q r cut i v) = by_visible d q r cut i v
    more (by_place h) = by_place (special_more G F w t p h)
    more (by_hidden d q r cut i k h) = by_hidden d q r cut i k (special_more G F w t q h)
