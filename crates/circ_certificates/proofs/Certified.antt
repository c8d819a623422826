-- Where the links of a certificate lead, by number.
use Rattle.std.proofs.Common.{◌≡◌, ◌↔◌, ℕ, Bool, List, [], map, Option, Some, None, Result, Ok, Err, IfOk, IsTrue, sym, subst, ◌∙◌}
use Rattle.std.specs.List.{slice_get}
use Rattle.std.specs.Option.{IfSome, option_map}
use Rattle.circ_term.specs.Growing.{Grows}
use Rattle.circ_term.specs.Tree.{Tree}
use Rattle.circ_theory.specs.Signature.{Operator}
use Rattle.circ_theory.specs.Theory.{Theory, Derivative}
use Rattle.circ_special.specs.declared.place.Place.{Place}
use Rattle.circ_special.specs.Special.{IsPlace}
use Rattle.circ_special.specs.Guarded.{Guarded}
use Rattle.circ_proof.specs.Plain.{LinkOf}
use Rattle.circ_proof.specs.Runs.{Runs}
use Rattle.circ_proof.specs.Certified.{Certified, start_term}
use Rattle.circ_proof.specs.Link.{setting, resolved_links, Leads}
use Rattle.circ_replay.specs.Following.{FollowsAll}
use Rattle.circ_nodes.specs.Named.{IsNamed, tree_at}
use Rattle.circ_nodes.proofs.Located.{named_tree, trees_later}
use Rattle.circ_rules.specs.Answers.{Gives}
use Rattle.circ_rules.specs.Deriving.{IsBuilt}
use Rattle.circ_rules.proofs.Starting.{last_decides}
use Rattle.circ_shared.specs.Interned.{OfTerm}
use Rattle.circ_steps.specs.declared.rules.Rules.{Rules}
use Rattle.circ_steps.specs.Judging.{AreRules, terms_at}

-- links are followed over the table as it was before the start term was entered
pub follows_from : (old mid new : List Tree) (g : Grows old mid) (r : Rules) → AreRules old r → (ls : List (LinkOf ℕ)) (n : ℕ) (first : Tree) → IsNamed mid n first
    → (o : Option ℕ)
    → OfTerm new (FollowsAll (setting r.theory.now r.gamma.now [] []) (resolved_links (map (tree_at mid) r.table.now) ls) (tree_at mid n)) o
    → OfTerm new (FollowsAll (setting r.theory.now r.gamma.now [] []) (resolved_links (terms_at old r) ls) first) o
follows_from old mid new g r are ls n first named o h =
    let c = setting r.theory.now r.gamma.now [] [] in
    let P : List Tree → Type 0 = λ ts. OfTerm new (FollowsAll c (resolved_links ts ls) (tree_at mid n)) o in
    let Q : Tree → Type 0 = λ t. OfTerm new (FollowsAll c (resolved_links (terms_at old r) ls) t) o in
    subst Q (named_tree mid n first named) (subst P (trees_later old mid r.table.now g are.table) h)

-- the last term decides, or memory ran out
pub decided : {E : Type 0} (th : Theory) (g : Place) (o : Operator) (listed : slice_get th.signature.ops g.op ≡ Some o) (n : ℕ)
    (hole : option_map (λ d. d.hole) (slice_get th.derivatives n) ≡ Some o.result) (G : List Place) (p : IsPlace th g) (k : ℕ)
    (argument : slice_get o.args g.arg ≡ Some k) (ls : List (LinkOf Tree)) (first : Tree)
    (built : IfSome (slice_get th.derivatives n) (λ d. Gives (IsBuilt (start_term o g d)) (Some first))) (last : Tree)
    → Runs (Leads (setting th G [] [])) ls first last → (r : Result Bool E) → IfOk r (λ b. IsTrue b ↔ Guarded th G last 0 k)
    → IfSome (slice_get th.derivatives n) (λ d. IfOk r (λ b. IsTrue b ↔ Certified th G g d ls))
decided th g o listed n hole G p k argument ls first built last leads (Ok b) h = last_decides th g o listed n hole G p k argument ls first built last b leads h
decided th g o listed n hole G p k argument ls first built last leads (Err e) h = any (slice_get th.derivatives n)
  where
    any : (x : Option Derivative) → IfSome x (λ d. Unit {0})
    any None = tt
    any (Some d) = tt
