-- The files that a run takes, one after the other.
use Rattle.std.proofs.Common.{◌≡◌, ◌≤◌, ℕ, List, length, Some, None, true, sym, ◌∙◌, subst, inl, inr, ap, arith, Result, Ok, Err}
use Rattle.std.specs.Prelude.{IfOk, IfErr}
use Rattle.std.proofs.lemmas.Option.{same_Some}
use Rattle.circ_outer.specs.Count.{Rose}
use Rattle.circ_outer.specs.Shelf.{ShelfState, ShelfFrame, IsQuiet}
use Rattle.circ_theory.specs.Theory.{Theory}
use Rattle.circ_proof.specs.Proof.{Proof}
use Rattle.circ_proof_text.specs.ProofText.{ReadsAsProof}
use Rattle.circ_read.specs.declared.cause.Cause.{Cause}
use Rattle.circ_files.specs.Files.{Held, Holds, HoldsMore, IsOnly, Refusal, RefusesFile, IsUnread, IsUntaken, IsFileFault}
use Rattle.circ_files.specs.Like.{IsLikeCause}
use Rattle.circ_files.specs.ProofFile.{TakesProof}
use Rattle.circ_files.specs.Quiet.{IsQuietBut, IsQuietCall}
use Rattle.circ_files.specs.declared.files.TheConstants.{MOST_BYTES}
use Rattle.circ_status.specs.declared.status.Status.{Status}
use Rattle.circ_status.specs.declared.status.Status.TheVariants as status

-- what a file held after a call it held before
pub moved : (h k : Held) (name : List ℕ) (P : List ℕ → Type 0) → k name ≡ h name → Holds k name P → Holds h name P
moved h k name P e r = record { bytes = r.bytes; bytes_are = sym e ∙ r.bytes_are; short = r.short; are = r.are }

-- what bytes alone read as, a file that holds them reads as
pub only_read : {X : Type 0} (h : Held) (name bytes : List ℕ) (R : List ℕ → X → Type 0) (x : X) → h name ≡ Some bytes → length bytes ≤ MOST_BYTES
    → R bytes x × ((y : X) → R bytes y → y ≡ x) → IsOnly x (λ y. Holds h name (λ bytes. R bytes y))
only_read h name bytes R x held short r = (
  record { bytes = bytes; bytes_are = held; short = short; are = r.0 },
  λ y t. r.1 y (subst (λ bs. R bs y) (same_Some t.bytes bytes (sym t.bytes_are ∙ held)) t.are),
)

pub taken_before : (name : List ℕ) (th : Theory) (p : Proof) (before middle : ShelfState) → ShelfFrame before middle → TakesProof name th p middle
    → TakesProof name th p before
taken_before name th p before middle f t =
    let h : Held = before.holds in
    let k : Held = middle.holds in
    let same = f.holds name in
    record {
      bytes = t.bytes;
      reads = λ e. let r = t.reads (f.tells ∙ e) in
          (moved h k name (λ bytes. ReadsAsProof th bytes p) same r.0, λ q x. r.1 q (moved k h name (λ bytes. ReadsAsProof th bytes q) (sym same) x));
    }

pub quiet_after : (before middle after : ShelfState) → IsQuiet before middle → IsQuiet middle after → IsQuiet before after
quiet_after before middle after q r = record { count = r.count ∙ q.count; last = r.last ∙ q.last }

pub quiet_but_after : (before middle after : ShelfState) (s : Status) → IsQuiet before middle → IsQuietBut middle after s → IsQuietBut before after s
quiet_but_after before middle after (status.ReadFault n) q r = tt
quiet_but_after before middle after s q r = quiet_after before middle after q r

pub quiet_any : (before after : ShelfState) (s : Status) → IsQuiet before after → IsQuietBut before after s
quiet_any before after (status.ReadFault n) q = tt
quiet_any before after s q = q

pub quiet_call_after : {A : Type 0} (before middle after : ShelfState) (r : Result A Status) → IsQuiet before middle → IsQuietCall middle after r
    → IsQuietCall before after r
quiet_call_after before middle after (Ok x) q r = quiet_after before middle after q r
quiet_call_after before middle after (Err s) q r = quiet_but_after before middle after s q r

-- what takes nothing from the shelf is quiet
pub quiet_result : {A : Type 0} (before after : ShelfState) (r : Result A Status) → IsQuiet before after → IsQuietCall before after r
quiet_result before after (Ok x) q = q
quiet_result before after (Err (status.ReadFault n)) q = tt
quiet_result before after (Err s) q = q

-- a fault after a quiet call is one since before it
pub quiet_fault : (file : ℕ) (name : List ℕ) (N : Refusal) (before middle after : ShelfState) (s : Status) → ShelfFrame before middle → IsQuiet before middle
    → IsFileFault file name N middle after s → IsFileFault file name N before after s
quiet_fault file name N before middle after (status.ReadFault n) f q r = (r.0, unread r.1)
  where
    unread : IsUnread name middle after → IsUnread name before after
    unread (inl s) = let R : ℕ → Type 0 = λ x. Rose x after.count in inl (record { rose = subst R q.count s.rose; named = s.named })
    unread (inr s) = inr (record {
      told = sym f.tells ∙ s.told;
      nothing = sym (f.holds name) ∙ s.nothing;
      quiet = quiet_after before middle after q s.quiet;
      below = rw (sym q.count) s.below;
    })
quiet_fault file name N before middle after (status.TooLong g n) f q r = (
  r.0,
  record {
    past = r.1.past;
    within_piece = r.1.within_piece;
    within_file = λ e. let m = r.1.within_file (f.tells ∙ e) in
        record { bytes = m.bytes; bytes_are = sym (f.holds name) ∙ m.bytes_are; past = m.past; within_piece = m.within_piece; within_file = m.within_file };
  },
)
quiet_fault file name N before middle after (status.Unreadable g p d) f q r =
    (r.0, r.1, λ e. moved before.holds middle.holds name (N p d) (f.holds name) (r.2 (f.tells ∙ e)))
quiet_fault file name N before middle after status.Memory f q r = tt
quiet_fault file name N before middle after s f q r = absurd r

pub if_ok : {T E : Type 0} (P Q : T → Type 0) (r : Result T E) → IfOk r P → ((x : T) → P x → Q x) → IfOk r Q
if_ok P Q (Ok x) h f = f x h
if_ok P Q (Err e) h f = tt

pub if_err : {T E : Type 0} (P Q : E → Type 0) (r : Result T E) → IfErr r P → ((e : E) → P e → Q e) → IfErr r Q
if_err P Q (Ok x) h f = tt
if_err P Q (Err e) h f = f e h

-- a file that was not taken gives nothing
pub untaken_fault : (file : ℕ) (name : List ℕ) (N : Refusal) (before after : ShelfState) (s : Status) → IsUntaken file name before after s
    → IsFileFault file name N before after s
untaken_fault file name N before after (status.ReadFault n) u = u
untaken_fault file name N before after (status.TooLong f n) u = u
untaken_fault file name N before after status.Memory u = u
untaken_fault file name N before after s u = absurd u

-- a file that gives nothing: it refuses the command, or it was not read, or memory ran out
pub data FaultOf (file : ℕ) (name : List ℕ) (N : Refusal) (before after : ShelfState) : Status → Type 0 where
  refuses : (s : Status) → RefusesFile before.holds file name N s → FaultOf file name N before after s
  unread : (n : ℕ) → n ≡ after.count → IsUnread name before after → FaultOf file name N before after (status.ReadFault n)
  out_of_memory : FaultOf file name N before after status.Memory

pub fault_of : (file : ℕ) (name : List ℕ) (N : Refusal) (before after : ShelfState) (s : Status) → before.tells ≡ true → IsFileFault file name N before after s
    → FaultOf file name N before after s
fault_of file name N before after (status.ReadFault n) t f = unread n f.0 f.1
fault_of file name N before after (status.TooLong g n) t f = refuses (status.TooLong g n) (f.0, f.1.within_file t)
fault_of file name N before after (status.Unreadable g p d) t f = refuses (status.Unreadable g p d) (f.0, f.2 t)
fault_of file name N before after status.Memory t f = out_of_memory
fault_of file name N before after s t f = absurd f

-- files that read are not refused
pub long_file : (held : Held) (name : List ℕ) (n : ℕ) (P : List ℕ → Type 0) → HoldsMore held name n → Holds held name P → ⊥
long_file held name n P m h =
    let same : m.bytes ≡ h.bytes = same_Some m.bytes h.bytes (sym m.bytes_are ∙ h.bytes_are) in
    omega (arith, m.past, m.within_file, h.short, ap length same)

pub reads_not_refused : (held : Held) (file : ℕ) (name : List ℕ) (N : Refusal) (P : List ℕ → Type 0) (s : Status) → Holds held name P
    → ((place : ℕ) (c : Cause) (bytes : List ℕ) → P bytes → N place c bytes → ⊥) → RefusesFile held file name N s → ⊥
reads_not_refused held file name N P (status.TooLong f n) h g r = long_file held name n P r.1 h
reads_not_refused held file name N P (status.Unreadable f p c) h g r =
    let x = r.1 in g p c x.bytes (subst P (same_Some h.bytes x.bytes (sym h.bytes_are ∙ x.bytes_are)) h.are) x.are
reads_not_refused held file name N P s h g r = r

-- the bytes are refused in one way, but that a like cause may be shown
abbrev pub IsOneWay : Refusal → Type 0
IsOneWay N = (p q : ℕ) (c d : Cause) (bytes : List ℕ) → N p c bytes → N q d bytes → (p ≡ q) × IsLikeCause c d

pub refused_held : (held : Held) (file : ℕ) (name : List ℕ) (N : Refusal) (s : Status) → RefusesFile held file name N s → held name ≡ None → ⊥
refused_held held file name N (status.TooLong f n) r e = let never : Some r.1.bytes ≡ None = sym r.1.bytes_are ∙ e in cc
refused_held held file name N (status.Unreadable f p d) r e = let x = r.1 in let never : Some x.bytes ≡ None = sym x.bytes_are ∙ e in cc
refused_held held file name N s r e = r

pub holds_held : (held : Held) (name : List ℕ) (P : List ℕ → Type 0) → Holds held name P → held name ≡ None → ⊥
holds_held held name P h e = let never : Some h.bytes ≡ None = sym h.bytes_are ∙ e in cc

-- a file that holds something is not read only where the shelf's count rose
pub unread_rose : (name : List ℕ) (before after : ShelfState) → (before.holds name ≡ None → ⊥) → IsUnread name before after → Rose before.count after.count
unread_rose name before after held (inl s) = s.rose
unread_rose name before after held (inr m) = absurd (held m.nothing)

-- a file's fault is none of the other answers
pub file_fault_not_ok : (file : ℕ) (name : List ℕ) (N : Refusal) (before after : ShelfState) (s : Status) → s ≡ status.Ok
    → IsFileFault file name N before after s → ⊥
file_fault_not_ok file name N before after s e f = let Q : Status → Type 0 = IsFileFault file name N before after in subst Q e f

pub file_fault_not_refused : (file : ℕ) (name : List ℕ) (N : Refusal) (before after : ShelfState) (s : Status) (n : ℕ) → s ≡ status.Refused n
    → IsFileFault file name N before after s → ⊥
file_fault_not_refused file name N before after s n e f = let Q : Status → Type 0 = IsFileFault file name N before after in subst Q e f

-- what is a fault for fewer reasons is one
pub more_refusals : (file : ℕ) (name : List ℕ) (N M : Refusal) (before after : ShelfState) (s : Status)
    → ((place : ℕ) (c : Cause) (bytes : List ℕ) → N place c bytes → M place c bytes)
    → IsFileFault file name N before after s → IsFileFault file name M before after s
more_refusals file name N M before after (status.Unreadable g p d) h f = (
  f.0,
  record { bytes = f.1.bytes; short = f.1.short; are = h p d f.1.bytes f.1.are },
  λ t. let x = f.2 t in record { bytes = x.bytes; bytes_are = x.bytes_are; short = x.short; are = h p d x.bytes x.are },
)
more_refusals file name N M before after (status.ReadFault n) h f = f
more_refusals file name N M before after (status.TooLong g n) h f = f
more_refusals file name N M before after status.Memory h f = f
more_refusals file name N M before after s h f = absurd f
