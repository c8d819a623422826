use Rattle.std.proofs.Common.{◌≡◌, ℕ, List, drop}
use Rattle.circ_proof.specs.Plain.{plain_links}
use Rattle.circ_proof.specs.Link.{resolved_links}
use Rattle.circ_proof.specs.declared.links.Link.{Link}
use Rattle.circ_expansion.specs.Followed.{led_all}
use Rattle.circ_expansion.specs.Expand.{trail}
use Rattle.circ_tasks.specs.Settings.{setting_of}
use Rattle.circ_uses.specs.Uses.{first_of}
use Rattle.circ_tasks.proofs.leading.Side.led_all.Given as goal

abbrev pub invariant-loop-link : goal.invariant-loop-link
invariant-loop-link l =
    let S = setting_of l.self in
    let R = λ (xs : List (Link ℕ)). resolved_links l.self.table.now (plain_links xs) in
    record {
      same : led_all S (R (drop l.link-index l.links)) l.here ≡ led_all S (R l.links) l.term;
      limits : first_of (trail S (R (drop l.link-index l.links)) l.here) ≡ first_of (trail S (R l.links) l.term);
    }
