use Rattle.std.proofs.Common.{◌≡◌, ◌∙◌, ℕ, List, length, refl, ap, sym, subst, arith, get_or}
use Rattle.std.specs.List.{slice_get}
use Rattle.std.proofs.lemmas.List.{drop_all}
use Rattle.std.proofs.lemmas.Option.{slice_get_read, slice_get-get_or, get_or_from_slice_get}
use Rattle.circ_term.specs.Tree.{Tree}
use Rattle.circ_table.specs.Table.{firsts_at}
use Rattle.circ_table.proofs.Naming.{Gathered, gathered_none, gathered_more, gathered_all, grows_self, grows_more, all_at}
use Rattle.circ_table.proofs.named.NamedTerms.+place.Goals as goal

pub loop-arg-init : goal.loop-arg-init
loop-arg-init m c =
    let table = c.args.self.now.0 in
    let ns = c.args-numbers.result.now in
    let same : c.in_ok-table.table ≡ table = c.in_ok-table.ensures ∙ ap (λ x. x.0) c.self.view_is in
    let P : List Tree → Type 0 = λ xs. Gathered table c.args.number ns xs in
    record {
      table = refl;
      grows = grows_self c.args.self.now.1;
      gathered =
          subst P (sym c.in_ok-args.ensures.items)
          (gathered_none table c.args.number ns (λ t e. ap (λ ts. firsts_at ts ns) (sym same) ∙ c.args-numbers.ensures.args t (ap (λ ts. slice_get ts c.args.number) same ∙ e)));
    }

pub loop-arg-preserved : goal.loop-arg-preserved
loop-arg-preserved m c =
    let table = c.args.self.now.0 in
    let ns = c.args-numbers.result.now in
    let at = c.loop-arg in
    let i = at.arg-index in
    let n = get_or ns i 0 in
    let u = c.index.result.now in
    let terms = c.self-in-loop-arg.inside.terms.items in
    let place = c.in_ok-place.place in
    let view = ap (λ x. x.1) c.self-in-loop-arg.view_is in
    let read = sym (get_or_from_slice_get ns i n n (slice_get-get_or ns i 0 c.loop-arg-test.true)) in
    let shown = slice_get_read terms (length terms) place u refl (omega (arith, c.in_ok-place.ensures.there, ap length view)) c.index.ensures in
    let named = ap (λ ts. slice_get ts n) (sym at.invariant.table) ∙ sym c.in_ok-place.ensures.placed ∙ ap (λ ts. slice_get ts place) (sym view) ∙ shown in
    record {
      table = c.in_ok-place.ensures.table ∙ at.invariant.table;
      grows = grows_more c.args.self.now.1 at.self.1 c.place.new.self.1 at.invariant.grows c.in_ok-place.ensures.grows;
      gathered = gathered_more table c.args.number ns i n at.args.items c.share_to.new.list.items u c.loop-arg-test.true read named c.in_ok-share_to.ensures.put at.invariant.gathered;
    }

pub place-requires : goal.place-requires
place-requires m c =
    let below = all_at c.args.number c.args-numbers.result.now c.loop-arg.arg-index c.args-numbers.ensures.before c.loop-arg-test.true in
    (omega (arith, below, c.decreases), omega (arith, below, c.requires, ap length c.loop-arg.invariant.table))

pub build-requires-clause-same : goal.build-requires-clause-same
build-requires-clause-same m c = c.in_ok-table.ensures ∙ ap (λ x. x.0) c.self.view_is ∙ sym c.loop-arg.invariant.table

pub build-requires-clause-args : goal.build-requires-clause-args
build-requires-clause-args m c = λ t e.
    let table = c.args.self.now.0 in
    let ns = c.args-numbers.result.now in
    let P : List ℕ → Type 0 = λ ms. Gathered table c.args.number ms c.loop-arg.args.items in
    gathered_all table c.args.number c.loop-arg.args.items t (subst P (drop_all c.loop-arg.arg-index ns c.loop-arg-test.false) c.loop-arg.invariant.gathered)
    (ap (λ ts. slice_get ts c.args.number) (sym c.loop-arg.invariant.table) ∙ e)

pub returns-in_err-place-clause-grows : goal.returns-in_err-place-clause-grows
returns-in_err-place-clause-grows m c =
    grows_more c.args.self.now.1 c.loop-arg.self.1 c.place.new.self.1 c.loop-arg.invariant.grows c.place.ensures.grows

pub returns-in_err-share_to-clause-grows : goal.returns-in_err-share_to-clause-grows
returns-in_err-share_to-clause-grows m c =
    grows_more c.args.self.now.1 c.loop-arg.self.1 c.place.new.self.1 c.loop-arg.invariant.grows c.place.ensures.grows

pub returns-clause-table : goal.returns-clause-table
returns-clause-table m c = c.build.ensures.table ∙ c.loop-arg.invariant.table

pub returns-clause-grows : goal.returns-clause-grows
returns-clause-grows m c = grows_more c.args.self.now.1 c.loop-arg.self.1 c.build.new.self.1 c.loop-arg.invariant.grows c.build.ensures.grows
