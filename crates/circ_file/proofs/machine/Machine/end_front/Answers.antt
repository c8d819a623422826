use Rattle.std.proofs.Common.{◌∙◌, ◌++◌, ◌∷◌, [], sym, ap, map}
use Rattle.std.proofs.lemmas.List.{map_push}
use Rattle.circ_proof_text.specs.Parts.{Head}
use Rattle.circ_file.specs.View.{plain_part, queue_of}
use Rattle.circ_file.proofs.Links.{head_ends}
use Rattle.circ_file.proofs.machine.Machine.end_front.Goals as goal

pub returns-in_ok-push_back-in-Tabling-clause-queue : goal.returns-in_ok-push_back-in-Tabling-clause-queue
returns-in_ok-push_back-in-Tabling-clause-queue c =
    let old = c.args.self.now in
    ap (map plain_part) c.in_ok-push_back-in-Tabling.ensures.items
    ∙ map_push plain_part old.queue.items c.in_ok-part-in-Tabling.part
    ∙ ap (λ x. queue_of old ++ x) (ap (λ x. x ∷ []) (c.in_ok-part-in-Tabling.ensures ∙ ap (λ x. Head c.args.table x) c.as_slice.ensures.value) ∙ sym (head_ends c.args.table old c.requires.kept c.in-Tabling.is))
