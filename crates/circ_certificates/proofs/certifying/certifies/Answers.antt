use Rattle.std.proofs.Common.{Some, None}
use Rattle.circ_theory.specs.Operators.{operator_of}
use Rattle.circ_proof.specs.Link.{resolved_links}
use Rattle.circ_proof.specs.Plain.{plain_links}
use Rattle.circ_nodes.specs.Named.{tree_at}
use Rattle.circ_nodes.proofs.Numbers.{named_below, grows_more}
use Rattle.circ_rules.proofs.Starting.{no_start, no_last}
use Rattle.circ_steps.specs.Judging.{terms_at}
use Rattle.circ_steps.proofs.Deriving.{rules_later}
use Rattle.circ_certificates.proofs.Certified.{follows_from, decided}
use Rattle.circ_certificates.proofs.certifying.certifies.Goals as goal

pub returns-in_default-clause-exact : goal.returns-in_default-clause-exact
returns-in_default-clause-exact c =
    let r = c.args.rules.now in
    let s = c.args.start.now in
    no_start r.theory.now s.place (operator_of s.decl.now) c.requires.start.listed c.args.derivative c.requires.hole r.gamma.now c.requires.start.place s.sort
    c.requires.start.argument (resolved_links (terms_at c.args.nodes.now r) (plain_links c.args.links.now)) (rw c.in_default.is at c.in_ok-term.ensures.exact)

pub follow_all-requires-clause-shared : goal.follow_all-requires-clause-shared
follow_all-requires-clause-shared c =
    let h = rules_later c.args.nodes.now c.intern.new.self c.in_ok-first.ensures.grows c.args.rules.now c.requires.rules in
    record { equations = h.equations; patterns = h.patterns; hypotheses = tt; table = h.table }

pub follow_all-requires-clause-term : goal.follow_all-requires-clause-term
follow_all-requires-clause-term c = named_below c.intern.new.self c.in_ok-first.first c.in-Some.term c.in_ok-first.ensures.named

pub returns-in_err-last-clause-grows : goal.returns-in_err-last-clause-grows
returns-in_err-last-clause-grows c =
    grows_more c.args.nodes.now c.intern.new.self c.follow_all.new.nodes c.in_ok-first.ensures.grows c.follow_all.ensures.grows

pub returns-in_default-2-clause-grows : goal.returns-in_default-2-clause-grows
returns-in_default-2-clause-grows c =
    grows_more c.args.nodes.now c.intern.new.self c.follow_all.new.nodes c.in_ok-first.ensures.grows c.in_ok-last.ensures.grows

pub returns-in_default-2-clause-exact : goal.returns-in_default-2-clause-exact
returns-in_default-2-clause-exact c =
    let r = c.args.rules.now in
    let s = c.args.start.now in
    let ls = plain_links c.args.links.now in
    let told = follows_from c.args.nodes.now c.intern.new.self c.follow_all.new.nodes c.in_ok-first.ensures.grows r c.requires.rules ls c.in_ok-first.first
    c.in-Some.term c.in_ok-first.ensures.named None (rw c.in_default-2.is at c.in_ok-last.ensures.exact) in
    no_last r.theory.now s.place (operator_of s.decl.now) c.requires.start.listed c.args.derivative c.requires.hole r.gamma.now c.requires.start.place s.sort
    c.requires.start.argument (resolved_links (terms_at c.args.nodes.now r) ls) c.in-Some.term (rw c.in-Some.is at c.in_ok-term.ensures.exact) told

pub guarded-requires-clause-rules : goal.guarded-requires-clause-rules
guarded-requires-clause-rules c =
    let g = grows_more c.args.nodes.now c.intern.new.self c.follow_all.new.nodes c.in_ok-first.ensures.grows c.in_ok-last.ensures.grows in
    rules_later c.args.nodes.now c.follow_all.new.nodes g c.args.rules.now c.requires.rules

pub guarded-requires-clause-term : goal.guarded-requires-clause-term
guarded-requires-clause-term c = (rw c.in-Some-2.is at c.in_ok-last.ensures.exact).0

pub returns-clause-grows : goal.returns-clause-grows
returns-clause-grows c =
    grows_more c.args.nodes.now c.intern.new.self c.follow_all.new.nodes c.in_ok-first.ensures.grows c.in_ok-last.ensures.grows

pub returns-clause-exact : goal.returns-clause-exact
returns-clause-exact c =
    let r = c.args.rules.now in
    let s = c.args.start.now in
    let ls = plain_links c.args.links.now in
    let new = c.follow_all.new.nodes in
    let told = follows_from c.args.nodes.now c.intern.new.self new c.in_ok-first.ensures.grows r c.requires.rules ls c.in_ok-first.first
    c.in-Some.term c.in_ok-first.ensures.named (Some c.in-Some-2.last) (rw c.in-Some-2.is at c.in_ok-last.ensures.exact) in
    decided r.theory.now s.place (operator_of s.decl.now) c.requires.start.listed c.args.derivative c.requires.hole r.gamma.now c.requires.start.place s.sort
    c.requires.start.argument (resolved_links (terms_at c.args.nodes.now r) ls) c.in-Some.term (rw c.in-Some.is at c.in_ok-term.ensures.exact)
    (tree_at new c.in-Some-2.last) told.1 c.guarded.result c.guarded.ensures
