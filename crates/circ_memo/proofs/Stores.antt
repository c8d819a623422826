-- A store stays right when terms are added.
use Rattle.std.proofs.Common.{◌≡◌, ℕ, ◌≤◌, List, refl, arith}
use Rattle.std.specs.List.{slice_get}
use Rattle.std.specs.Option.{option_map_or}
use Rattle.circ_term.specs.Tree.{Tree, depth_of}
use Rattle.circ_term.specs.Growing.{Grows}
use Rattle.circ_nodes.specs.Named.{IsNamed}
use Rattle.circ_nodes.proofs.Numbers.{grows_self, grows_more}
use Rattle.circ_due.specs.Chosen.{due_by}
use Rattle.circ_due.specs.declared.means.Means.{Means}
use Rattle.circ_due.proofs.Later.{ready_later}
use Rattle.circ_memo.specs.Keeping.{AreKept, Stays}
use Rattle.circ_memo.specs.Settling.{AreLinked}
use Rattle.circ_memo.specs.declared.parts.Step.{Step}
use Rattle.circ_memo.specs.Working.{IsStore, Extends, HasWorked}
use Rattle.circ_memo.specs.declared.store.Store.{Store}
use Rattle.circ_memo.proofs.Forms.{kept_later}
use Rattle.circ_memo.proofs.Telling.{stays_self, stays_on, are_linked_later, are_linked_stays}

pub store_later : (m : Means) (a b : Store) → Grows a.nodes b.nodes → b.entries ≡ a.entries → IsStore m a → IsStore m b
store_later m a b g e h = record { ready = ready_later a.nodes b.nodes m g h.ready; kept = rw e (kept_later (due_by m) a.nodes b.nodes g a.entries h.kept) }

-- more is kept, and no terms were added
pub store_kept : (m : Means) (a b : Store) → b.nodes ≡ a.nodes → AreKept (due_by m) b.nodes b.entries → IsStore m a → IsStore m b
store_kept m a b e k h = record { ready = rw e h.ready; kept = k }

pub extends_self : (a : Store) → Extends a a
extends_self a = record { grows = grows_self a.nodes; stays = stays_self a.entries }

pub extends_on : (a b c : Store) → Extends a b → Extends b c → Extends a c
extends_on a b c g h = record {
  grows = grows_more a.nodes b.nodes c.nodes g.grows h.grows;
  stays = stays_on a.entries b.entries c.entries g.stays h.stays;
}

-- terms are added, or more is kept
pub extends_by : (a b : Store) → Grows a.nodes b.nodes → Stays a.entries b.entries → Extends a b
extends_by a b g h = record { grows = g; stays = h }

-- steps stay linked
pub are_linked_extends : (a b : Store) → Extends a b → (n : ℕ) (ps : List Step) (m : ℕ) → AreLinked a.nodes a.entries n ps m → AreLinked b.nodes b.entries n ps m
are_linked_extends a b e n ps m h =
    are_linked_stays a.entries b.entries e.stays b.nodes n ps m (are_linked_later a.entries a.nodes b.nodes e.grows n ps m h)

-- ---- work that has gone on

pub worked_self : (m : Means) (s : Store) (k : ℕ) → IsStore m s → HasWorked m s s k k
worked_self m s k h = record { store = h; extends = extends_self s; less = omega arith }

-- terms were added last
pub worked_later : (m : Means) (a b c : Store) (k l n : ℕ) → HasWorked m a b k l → Grows b.nodes c.nodes → c.entries ≡ b.entries → n ≤ l → HasWorked m a c k n
worked_later m a b c k l n w g e h =
    let x = w.less in
    let same : Stays b.entries c.entries = rw e (stays_self b.entries) in
    record { store = store_later m b c g e w.store; extends = extends_on a b c w.extends (extends_by b c g same); less = omega (arith, x, h) }

-- ---- measures

-- the depth of the term of a number
abbrev pub depth_named : List Tree → ℕ → ℕ
depth_named nodes n = option_map_or depth_of (slice_get nodes n) 0

pub depth_named_is : (nodes : List Tree) (n : ℕ) (t : Tree) → IsNamed nodes n t → depth_named nodes n ≡ depth_of t
depth_named_is nodes n t h = rw h refl
