-- It cannot be that a theory has no greatest special set: the places of all self-guarded sets are one.
use Rattle.std.specs.Prelude.{ℕ, List, [], ◌∷◌, ◌++◌, map}
use Rattle.std.specs.List.{Contains}
use Rattle.circ_term.specs.Tree.{Tree}
use Rattle.circ_theory.specs.Theory.{Theory, Derivative}
use Rattle.circ_theory.proofs.Casing.{contains_first}
use Rattle.circ_theory.proofs.Weakening.{in_rest}
use Rattle.circ_special.specs.declared.place.Place.{Place}
use Rattle.circ_special.specs.Special.{IsWithin}
use Rattle.circ_special.specs.Guarded.{Guarded}
use Rattle.circ_special.proofs.Larger.{guarded_more}
use Rattle.circ_rewrite.specs.Replacement.{Traced}
use Rattle.circ_proof.specs.Certified.{due, derivatives_at}
use Rattle.circ_plain_search.specs.Greatest.{HasNormalForm, IsCandidate, IsSelfGuarded, AreTraces, GreatestSpecialSet}
use Rattle.circ_plain_search.specs.Places.{all_places}
use Rattle.circ_plain_search.specs.Keeps.{Keeps}
use Rattle.circ_plain_search.proofs.Keeping.{kept_from, kept_all, some_kept}
use Rattle.circ_plain_search.proofs.Increasing.{all_increase, is_listed, increasing_kept}

module _ (th : Theory) (budget : ℕ) where
  -- traces of what is due, where each has a normal form
  pub record SomeTraces (xs : List (Place × Derivative)) : Type 0 where
    pub traces : List (List Traced)
    pub are : AreTraces th budget xs traces

  before_others : (g : Place) (ds : List Derivative) (xs : List (Place × Derivative))
      → ((d : Derivative) → Contains ds d → (normal : Tree) × (traces : List Traced) × HasNormalForm th budget g d normal traces)
      → SomeTraces xs → SomeTraces (map (λ d. (g, d)) ds ++ xs)
  before_others g [] xs h s = s
  before_others g (d ∷ ds) xs h s =
      let first = h d (contains_first d ds) in
      let rest = before_others g ds xs (λ e c. h e (in_rest d e ds c)) s in
      record { traces = first.1 ∷ rest.traces; are = ((first.0, first.2), rest.are) }

  due_places : (g : Place) (G : List Place) (c : IsCandidate th budget g) → SomeTraces (due th G) → SomeTraces (due th (g ∷ G))
  due_places g G c s = before_others g (derivatives_at th g) (due th G) c.normal_forms s

  pub some_traces : (G : List Place) → ((g : Place) → Contains G g → IsCandidate th budget g) → SomeTraces (due th G)
  some_traces [] h = record { traces = []; are = tt }
  some_traces (g ∷ G) h = due_places g G (h g (contains_first g G)) (some_traces G (λ f c. h f (in_rest g f G c)))

  -- the place is of a self-guarded set
  record IsOfOne (g : Place) : Type 0 where
    set : List Place
    self_guarded : IsSelfGuarded th budget set
    of : Contains set g

  is_greatest : (G : List Place) → Keeps IsOfOne (all_places 0 th.signature.ops) G
      → (tss : List (List Traced)) × GreatestSpecialSet th budget G tss
  is_greatest G k = (
    made.traces,
    record {
      increasing = increasing_kept IsOfOne k (all_increase 0 th.signature.ops);
      self_guarded = record { candidates = candidates; guarded = guarded };
      greatest = greatest;
      recorded = made.are;
    },
  )
    where
      greatest : (F : List Place) → IsSelfGuarded th budget F → IsWithin F G
      greatest F s g c =
          kept_all IsOfOne k g (is_listed th g (s.candidates g c).place) (record { set = F; self_guarded = s; of = c })

      candidates : (g : Place) → Contains G g → IsCandidate th budget g
      candidates g c = let o = (kept_from IsOfOne k g c).1 in o.self_guarded.candidates g o.of

      guarded : (g : Place) → Contains G g → (d : Derivative) → Contains (derivatives_at th g) d → (normal : Tree) (traces : List Traced)
          → (h : HasNormalForm th budget g d normal traces) → Guarded th G normal 0 h.place.sort
      guarded g c d l normal traces h =
          let o = (kept_from IsOfOne k g c).1 in
          guarded_more th o.set G (greatest o.set o.self_guarded) normal 0 h.place.sort (o.self_guarded.guarded g o.of d l normal traces h)

      made : SomeTraces (due th G)
      made = some_traces G candidates

  pub some_set : ((G : List Place) (tss : List (List Traced)) → GreatestSpecialSet th budget G tss → ⊥) → ⊥
  some_set f = some_kept IsOfOne (all_places 0 th.signature.ops) (λ G k. let r = is_greatest G k in f G r.0 r.1)
