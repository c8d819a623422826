use Rattle.std.proofs.Common.{◌≡◌, ◌∙◌, ◌++◌, ◌∷◌, [], ◌<◌, ℕ, List, length, ap, sym, subst, arith}
use Rattle.circ_term.specs.Tree.{Tree}
use Rattle.circ_term.specs.Fingerprint.{fingerprint_of}
use Rattle.circ_proof.specs.Table.{number_in, term_limit}
use Rattle.circ_proof.proofs.Tables.{number_last}
use Rattle.circ_replay.specs.Fingerprints.{IsKeyed}
use Rattle.circ_replay.proofs.Keyed.{keyed_push}
use Rattle.circ_replay.proofs.table.TableBuilder.put.Goals as goal

pub invariant_of-self-2 : goal.invariant_of-self-2
invariant_of-self-2 c =
    let table = c.self.inside.terms.items in
    let keys = c.self.inside.chains in
    let t = c.args.term.now in
    let items : c.push_reserved.new.self.items ≡ table ++ t ∷ [] =
    c.push_reserved.ensures.items ∙ ap (λ xs. xs ++ c.in_ok-copy.copy ∷ []) c.in_ok-reserve.ensures.items ∙ ap (λ x. table ++ x ∷ []) c.in_ok-copy.ensures.same in
    let pushed : c.push.new.self ≡ keys ++ fingerprint_of t ∷ [] = c.in_ok-push.ensures.pushed ∙ ap (λ k. keys ++ k ∷ []) c.fingerprint.ensures in
    let room : length table < term_limit = omega (arith, c.if-number-ge-MOST_TERMS.false, c.len-number.ensures, c.self.inside.terms.ok.0) in
    let P : List Tree → Type 0 = λ ts. IsKeyed ts c.push.new.self in
    let Q : List ℕ → Type 0 = IsKeyed (table ++ t ∷ []) in
    subst P (sym items) (subst Q (sym pushed) (keyed_push table keys t c.self.invariant (rw (← c.self.view_is) at c.requires) room))

pub returns : goal.returns
returns c =
    let table = c.self.inside.terms.items in
    let t = c.args.term.now in
    let items : c.push_reserved.new.self.items ≡ table ++ t ∷ [] =
    c.push_reserved.ensures.items ∙ ap (λ xs. xs ++ c.in_ok-copy.copy ∷ []) c.in_ok-reserve.ensures.items ∙ ap (λ x. table ++ x ∷ []) c.in_ok-copy.ensures.same in
    let next = rw (← c.self.view_is) at c.requires in (
      items ∙ ap (λ ts. ts ++ t ∷ []) c.self.view_is,
      c.len-number.ensures ∙ c.self.inside.terms.ok.0 ∙ sym (number_last table t next.fresh) ∙ ap (λ ts. number_in ts t) (sym items),
    )
