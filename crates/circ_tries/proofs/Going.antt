-- Work at a term goes on, and then comes to what it comes to from there.
use Rattle.std.proofs.Common.{◌≡◌, ℕ, ◌≤◌, zero, suc, List, [], ◌∷◌, ◌++◌, length, take, map, Option, Result, Ok, Err, refl, ap, sym, ◌∙◌, arith, append_assoc, append-nil}
use Rattle.circ_term.specs.Tree.{Tree}
use Rattle.circ_term.specs.Growing.{Grows}
use Rattle.circ_rewrite.specs.Replacement.{Replacement, Traced}
use Rattle.circ_rewrite.specs.Plain.{plain_traces}
use Rattle.circ_rewrite.specs.declared.fault.RewriteFault.{RewriteFault}
use Rattle.circ_rewrite.specs.declared.fault.RewriteFault.TheVariants.{Spent, TooBig, TooDeep, Memory}
use Rattle.circ_chain.specs.Chain.{under}
use Rattle.circ_conditional_norm.specs.Within.{Bounded, Form, run_in}
use Rattle.circ_conditional_norm.specs.Work.{Work}
use Rattle.circ_tries.specs.declared.parts.Course.{Course}
use Rattle.circ_tries.specs.declared.parts.Room.{Room}
use Rattle.circ_tries.specs.declared.parts.Stop.{Stop}
use Rattle.circ_tries.specs.declared.parts.Stop.TheVariants as stop
use Rattle.circ_tries.specs.declared.parts.Turn.{Turn}
use Rattle.circ_tries.specs.declared.parts.Turn.TheVariants.{Settled, Stepped}
use Rattle.circ_tries.specs.Turning.{plain_room, Writes, ComesTo, GoesOn, FaultsAt, StopsAt, SettlesAt, StepsTo, TurnsAt}

pub map_append : {X Y : Type 0} (f : X → Y) (xs ys : List X) → map f (xs ++ ys) ≡ map f xs ++ map f ys
map_append f [] ys = refl
map_append f (x ∷ xs) ys = ap (λ r. f x ∷ r) (map_append f xs ys)

-- the front of a path
pub take_front : (xs ys : List ℕ) (n : ℕ) → n ≡ length xs → take n (xs ++ ys) ≡ xs
take_front [] ys zero e = refl
take_front [] ys (suc n) e = absurd (omega (arith, e))
take_front (x ∷ xs) ys zero e = absurd (omega (arith, e))
take_front (x ∷ xs) ys (suc n) e = ap (λ r. x ∷ r) (take_front xs ys n (omega (arith, e)))

pub writes_none : (path : List ℕ) (a : Course) → a.path.items ≡ path → Writes path a a []
writes_none path a e = (sym (append-nil (plain_traces a.traces.items)), e)

pub writes_on : (path : List ℕ) (a b c : Course) (vs ws : List Traced) → Writes path a b vs → Writes path b c ws → Writes path a c (vs ++ ws)
writes_on path a b c vs ws g h = (
  h.0 ∙ ap (λ xs. xs ++ map (under path) ws) g.0 ∙ append_assoc (plain_traces a.traces.items) (map (under path) vs) (map (under path) ws)
      ∙ ap (λ xs. plain_traces a.traces.items ++ xs) (sym (map_append (under path) vs ws)),
  h.1,
)

module _ (due : (budget : ℕ) → Tree → Work (Option Replacement)) (b : Room) where
  pub goes_self : (from : List ℕ) (t : Tree) (k : ℕ) → GoesOn due b from t k from t [] k
  goes_self from t k us = ap (λ xs. run_in due (plain_room b) k from t xs k) (sym (append-nil us))

  pub comes_on : (from to : List ℕ) (t u : Tree) (k l : ℕ) (vs : List Traced) (o : List Traced → Bounded) → GoesOn due b from t k to u vs l → ComesTo due b to u l o
      → ComesTo due b from t k (λ us. o (us ++ vs))
  comes_on from to t u k l vs o g h us = g us ∙ h (us ++ vs)

  pub goes_on : (p q r : List ℕ) (t u v : Tree) (k l m : ℕ) (vs ws : List Traced) → GoesOn due b p t k q u vs l → GoesOn due b q u l r v ws m → GoesOn due b p t k r v (vs ++ ws) m
  goes_on p q r t u v k l m vs ws g h us = g us ∙ h (us ++ vs) ∙ ap (λ xs. run_in due (plain_room b) m r v xs m) (append_assoc us vs ws)

  module _ (nodes : List Tree) where
    pub faults_on : (from to : List ℕ) (t u : Tree) (k l left : ℕ) (vs : List Traced) (e : RewriteFault) → GoesOn due b from t k to u vs l → FaultsAt due b nodes to u l left e
        → FaultsAt due b nodes from t k left e
    faults_on from to t u k l left vs Spent g h = (λ us. g us ∙ h.0 (us ++ vs), h.1)
    faults_on from to t u k l left vs (TooBig n) g h = λ us. g us ∙ h (us ++ vs)
    faults_on from to t u k l left vs (TooDeep n) g h = λ us. g us ∙ h (us ++ vs)
    faults_on from to t u k l left vs Memory g h = tt

    pub stops_on : (from to : List ℕ) (t u : Tree) (k l left : ℕ) (vs : List Traced) (s : Stop) → GoesOn due b from t k to u vs l → StopsAt due b nodes to u l left s
        → StopsAt due b nodes from t k left s
    stops_on from to t u k l left vs (stop.Fault e) g h = faults_on from to t u k l left vs e g h
    stops_on from to t u k l left vs (stop.Outgrows m) g h = (h.0, h.1, λ us. g us ∙ h.2 (us ++ vs))

    pub settles_on : (path from to : List ℕ) (x y z : Course) (t u : Tree) (k l left n : ℕ) (vs : List Traced) → GoesOn due b from t k to u vs l → Writes path x y vs
        → SettlesAt due b nodes path y z to u l left n → SettlesAt due b nodes path x z from t k left n
    settles_on path from to x y z t u k l left n vs g w h = (
      h.0,
      vs ++ h.1,
      h.2,
      λ us. g us ∙ h.3 (us ++ vs) ∙ ap (λ xs. Form h.0 xs left) (append_assoc us vs h.1),
      writes_on path x y z vs h.1 w h.4,
    )

    pub steps_on : (path from to : List ℕ) (x y z : Course) (t u : Tree) (k l left n : ℕ) (vs : List Traced) → l ≤ k → GoesOn due b from t k to u vs l → Writes path x y vs
        → StepsTo due b nodes path y z to u l left n → StepsTo due b nodes path x z from t k left n
    steps_on path from to x y z t u k l left n vs less g w h = (
      h.0,
      vs ++ h.1,
      h.2,
      goes_on from to [] t u h.0 k l left vs h.1 g h.3,
      writes_on path x y z vs h.1 w h.4,
      h.5,
      (let f = h.6 in omega (arith, less, f)),
    )

    pub turns_on : (path from to : List ℕ) (x y z : Course) (t u : Tree) (k l left : ℕ) (vs : List Traced) (o : Result Turn Stop) → l ≤ k → GoesOn due b from t k to u vs l → Writes path x y vs
        → TurnsAt due b nodes path y z to u l left o → TurnsAt due b nodes path x z from t k left o
    turns_on path from to x y z t u k l left vs (Ok (Settled n)) less g w h = settles_on path from to x y z t u k l left n vs g w h
    turns_on path from to x y z t u k l left vs (Ok (Stepped n)) less g w h = steps_on path from to x y z t u k l left n vs less g w h
    turns_on path from to x y z t u k l left vs (Err s) less g w h = stops_on from to t u k l left vs s g h

  -- in a table that has grown
  module _ (old new : List Tree) (grows : Grows old new) where
    pub faults_later : (from : List ℕ) (t : Tree) (k left : ℕ) (e : RewriteFault) → FaultsAt due b old from t k left e → FaultsAt due b new from t k left e
    faults_later from t k left Spent h = h
    faults_later from t k left (TooBig n) h = h
    faults_later from t k left (TooDeep n) h = h
    faults_later from t k left Memory h = tt
