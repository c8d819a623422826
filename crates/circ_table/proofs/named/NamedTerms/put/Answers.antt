use Rattle.std.proofs.Common.{◌≡◌, ◌∙◌, ◌++◌, ◌∷◌, [], ℕ, List, length, ap, sym, subst, arith}
use Rattle.std.specs.Prelude.{slice_set}
use Rattle.std.specs.List.{slice_get}
use Rattle.circ_term.specs.Tree.{Tree}
use Rattle.circ_table.specs.Placed.{ArePlaced}
use Rattle.circ_table.proofs.Firsts.{get_seam}
use Rattle.circ_table.proofs.Naming.{placed_made, placed_put}
use Rattle.circ_table.proofs.named.NamedTerms.put.Goals as goal

pub invariant_of-self-2 : goal.invariant_of-self-2
invariant_of-self-2 c =
    let table = c.self.inside.table in
    let terms = c.self.inside.terms.items in
    let places = c.make_places.new.places.items in
    let t = c.args.term in
    let made = placed_made table terms c.self.inside.places.items places c.self.invariant c.in_ok-make_places.ensures.kept in
    let named = ap (λ x. slice_get x.0 c.args.number) c.self.view_is ∙ c.requires.term in
    let count : c.len-place.result ≡ length terms = c.len-place.ensures ∙ c.self.inside.terms.ok.0 in
    let P : List Tree → Type 0 = λ ts. ArePlaced table ts (slice_set places c.args.number c.len-place.result) in
    let Q : ℕ → Type 0 = λ n. ArePlaced table (terms ++ t ∷ []) (slice_set places c.args.number n) in
    subst P (sym c.in_ok-push.ensures.items) (subst Q (sym count) (placed_put table terms places c.args.number t made named (omega (arith, count, c.if-place.false))))

pub returns-clause-placed : goal.returns-clause-placed
returns-clause-placed c =
    let terms = c.self.inside.terms.items in
    let t = c.args.term in
    let count : c.len-place.result ≡ length terms = c.len-place.ensures ∙ c.self.inside.terms.ok.0 in
    ap (λ ts. slice_get ts c.len-place.result) c.in_ok-push.ensures.items ∙ ap (slice_get (terms ++ t ∷ [])) count ∙ get_seam terms t [] ∙ sym c.requires.term
