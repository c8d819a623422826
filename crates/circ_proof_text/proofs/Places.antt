-- The checks of a place's line.
use Rattle.std.specs.Prelude.{◌≡◌, ◌↔◌, ◌<◌, ◌≤◌, ℕ, ◌&&◌, true, false, List, [], ◌∷◌, ◌++◌, length, refl, Option, Some, None}
use Rattle.std.specs.List.{slice_get}
use Rattle.std.specs.Option.{option_map_or}
use Rattle.std.proofs.Common.{◌∙◌, ap, arith}
use Rattle.std.proofs.lemmas.Bool.{and_parts, and_from}
use Rattle.circ_theory.specs.Signature.{Operator}
use Rattle.circ_theory.specs.Theory.{Theory}
use Rattle.circ_theory.specs.WellFormed.{IsWellFormed}
use Rattle.circ_theory.specs.Observing.{is_hidden}
use Rattle.circ_theory.proofs.Casing.{hidden_tells}
use Rattle.circ_theory.proofs.Rewriting.{contains_at}
use Rattle.circ_special.specs.declared.place.Place.{Place}
use Rattle.circ_special.specs.Special.{IsPlace, IsIncreasing}
use Rattle.circ_proof.specs.Proof.{IsNumber}
use Rattle.circ_proof.proofs.FewPlaces.{slice_bound}
use Rattle.circ_proof_text.specs.Checks.{is_place, is_next}

-- The test tells what a place is.
pub place_tells : (th : Theory) (g : Place) → (is_place th g ≡ true) ↔ IsPlace th g
place_tells th g = (λ e. to_place (slice_get th.signature.ops g.op) refl e, from_place)
  where
    at_arg : (o : Operator) → slice_get th.signature.ops g.op ≡ Some o → is_hidden th o.result ≡ true → (s : Option ℕ) → slice_get o.args g.arg ≡ s
        → option_map_or (is_hidden th) s false ≡ true → IsPlace th g
    at_arg o h r None f e = absurd (cc)
    at_arg o h r (Some s) f e = record {
      operator = o;
      sort = s;
      listed = h;
      argument = f;
      hidden = (hidden_tells th o.result).0 r;
      hidden_argument = (hidden_tells th s).0 e;
    }

    to_place : (o : Option Operator) → slice_get th.signature.ops g.op ≡ o
        → option_map_or (λ o. is_hidden th o.result && option_map_or (is_hidden th) (slice_get o.args g.arg) false) o false ≡ true → IsPlace th g
    to_place None h e = absurd (cc)
    to_place (Some o) h e =
        let p = and_parts (is_hidden th o.result) (option_map_or (is_hidden th) (slice_get o.args g.arg) false) e in
        at_arg o h p.0 (slice_get o.args g.arg) refl p.1

    from_place : IsPlace th g → is_place th g ≡ true
    from_place h =
        ap (λ o. option_map_or (λ o. is_hidden th o.result && option_map_or (is_hidden th) (slice_get o.args g.arg) false) o false) h.listed
        ∙ and_from (is_hidden th h.operator.result) (option_map_or (is_hidden th) (slice_get h.operator.args g.arg) false)
        ((hidden_tells th h.operator.result).1 h.hidden)
        (ap (λ s. option_map_or (is_hidden th) s false) h.argument ∙ (hidden_tells th h.sort).1 h.hidden_argument)

-- the numbers of a place are in range
pub place_numbers_in_range : (th : Theory) (g : Place) → IsWellFormed th → IsPlace th g → IsNumber g.op × IsNumber g.arg
place_numbers_in_range th g w h =
    let few : length th.signature.ops ≤ 65536 = w.few_ops in
    let op : g.op < length th.signature.ops = slice_bound th.signature.ops g.op h.operator h.listed in
    let short : length h.operator.args ≤ 16 = (w.operators h.operator (contains_at th.signature.ops g.op h.operator h.listed)).few in
    let arg : g.arg < length h.operator.args = slice_bound h.operator.args g.arg h.sort h.argument in
    (omega (arith, few, op), omega (arith, short, arg))

pub increasing_push : (gs : List Place) (g : Place) → IsIncreasing gs → is_next gs g ≡ true → IsIncreasing (gs ++ g ∷ [])
increasing_push [] g i n = tt
increasing_push (h ∷ []) g i n = (n, tt)
increasing_push (h ∷ j ∷ gs) g i n = (i.0, increasing_push (j ∷ gs) g i.1 n)

pub increasing_next : (gs : List Place) (g : Place) (hs : List Place) → IsIncreasing (gs ++ g ∷ hs) → is_next gs g ≡ true
increasing_next [] g hs i = refl
increasing_next (h ∷ []) g hs i = i.0
increasing_next (h ∷ j ∷ gs) g hs i = increasing_next (j ∷ gs) g hs i.1
