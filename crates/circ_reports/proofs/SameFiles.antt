-- The two files of `same`, one after the other.
use Rattle.std.proofs.Common.{◌≡◌, ℕ, List, ◌∙◌, refl, sym, subst, inl, inr, true}
use Rattle.circ_outer.specs.Shelf.{ShelfState, ShelfFrame}
use Rattle.circ_auto.specs.Machine.{Machine}
use Rattle.circ_auto.specs.Text.{ReadsAsAutomaton}
use Rattle.circ_read.specs.declared.cause.Cause.TheVariants as cause
use Rattle.circ_files.specs.Files.{IsFileFault}
use Rattle.circ_status.specs.declared.status.Status.{Status}
use Rattle.circ_status.specs.declared.status.Status.TheVariants as status
use Rattle.circ_files.proofs.FileFaults.{moved}
use Rattle.circ_reports.specs.Same.{AutomatonRefusal, ReadsOver, SecondRefusal, TakesAs, RefusesSame, first_fault}

-- a fault of an automaton's file is one of the second file
pub second_file_fault : (name : List ℕ) (m : Machine) (before after : ShelfState) (s : Status) → IsFileFault 2 name AutomatonRefusal before after s
    → IsFileFault 2 name (SecondRefusal m) before after s
second_file_fault name m before after (status.ReadFault n) r = r
second_file_fault name m before after (status.TooLong f n) r = r
second_file_fault name m before after (status.Unreadable f p c) r = (
  r.0,
  record { bytes = r.1.bytes; short = r.1.short; are = inl r.1.are },
  λ t. let h = r.2 t in record { bytes = h.bytes; bytes_are = h.bytes_are; short = h.short; are = inl h.are },
)
second_file_fault name m before after status.Memory r = r
second_file_fault name m before after s r = absurd r

-- a file whose automaton has the letters of the first
pub taken_over : (name : List ℕ) (m n : Machine) (before : ShelfState) → n.letters ≡ m.letters → TakesAs ReadsAsAutomaton name n before
    → TakesAs (ReadsOver m) name n before
taken_over name m n before e t = record {
  bytes = record { bytes = t.bytes.bytes; short = t.bytes.short; are = (t.bytes.are, e) };
  reads = λ q. let r = t.reads q in (
    record { bytes = r.0.bytes; bytes_are = r.0.bytes_are; short = r.0.short; are = (r.0.are, e) },
    λ k h. r.1 k (record { bytes = h.bytes; bytes_are = h.bytes_are; short = h.short; are = h.are.0 }),
  );
}

-- a file whose automaton has others
pub other_letters_fault : (name : List ℕ) (m n : Machine) (before after : ShelfState) → TakesAs ReadsAsAutomaton name n before → (n.letters ≡ m.letters → ⊥)
    → IsFileFault 2 name (SecondRefusal m) before after (status.Unreadable 2 2 cause.Shape)
other_letters_fault name m n before after t other = (
  refl,
  record {
    bytes = t.bytes.bytes;
    short = t.bytes.short;
    are = inr (record { n = n; reads = t.bytes.are; other = other; place_is = refl; cause_is = refl });
  },
  λ q. let r = (t.reads q).0 in record {
    bytes = r.bytes;
    bytes_are = r.bytes_are;
    short = r.short;
    are = inr (record { n = n; reads = r.are; other = other; place_is = refl; cause_is = refl });
  },
)

-- a file that is taken after a call is taken before it
pub taken_since : (Reads : List ℕ → Machine → Type 0) (name : List ℕ) (m : Machine) (before middle : ShelfState) → ShelfFrame before middle
    → TakesAs Reads name m middle → TakesAs Reads name m before
taken_since Reads name m before middle f t = record {
  bytes = t.bytes;
  reads = λ e. let r = t.reads (f.tells ∙ e) in (
    moved before.holds middle.holds name (λ bytes. Reads bytes m) (f.holds name) r.0,
    λ n x. r.1 n (moved middle.holds before.holds name (λ bytes. Reads bytes n) (sym (f.holds name)) x),
  );
}

-- want of memory refuses it
pub memory_refuses : (first second : List ℕ) (before after : ShelfState) (s : Status) → s ≡ status.Memory → RefusesSame first second before after s
memory_refuses first second before after s e =
    let P : Status → Type 0 = RefusesSame first second before after in subst P (sym e) (first_fault status.Memory tt)

pub ruleset refusing = (memory_refuses)
