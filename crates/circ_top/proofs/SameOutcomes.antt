-- What `same` answers, and its outcome.
use Rattle.std.proofs.Common.{◌≡◌, ℕ, List, length, map, refl, ap, sym, ◌∙◌, subst, arith, inl, inr, true, Option, Some, None}
use Rattle.std.proofs.lemmas.List.{length-map}
use Rattle.circ_outer.specs.Shelf.{ShelfState}
use Rattle.circ_auto.specs.declared.fault.AutoCause.{AutoCause}
use Rattle.circ_auto.specs.Machine.{Machine, Compares}
use Rattle.circ_auto.specs.Text.{ReadsAsAutomaton, FirstAutoCause}
use Rattle.circ_read.specs.declared.cause.Cause.{Cause}
use Rattle.circ_files.specs.Files.{Held, Holds, IsOnly, RefusesFile, IsUnread, IsTooLong, IsFileFault}
use Rattle.circ_files.specs.Like.{IsLikeCause, same_cause, IsLike, itself, another_word}
use Rattle.circ_status.specs.declared.status.Status.{Status}
use Rattle.circ_status.specs.declared.status.Status.TheVariants as status
use Rattle.circ_files.proofs.FileFaults.{FaultOf, fault_of, refuses, unread, out_of_memory, reads_not_refused, refused_held, holds_held}
use Rattle.circ_files.proofs.FileFaults.{IsOneWay, unread_rose, file_fault_not_ok, file_fault_not_refused}
use Rattle.circ_top.specs.Command.{Same, Asks}
use Rattle.circ_top.specs.Outcome.{command}
use Rattle.circ_top.specs.Refusals.{refusal_text}
use Rattle.circ_reports.specs.Same.{cause_of, AutomatonRefusal, ReadsOver, SecondRefusal, TakesAs, compared_status, letters_of, compared_text}
use Rattle.circ_reports.specs.Same.{SameOutcome, no_first, no_second, compared, IsCompared, RefusesSame, first_fault, second_fault, AtAutomaton}
use Rattle.circ_top.proofs.Agreeing.{DueIs, outcome, file_due, Agrees, alike, unread_file, memory}
use Rattle.circ_top.proofs.Refused.{refused_alike}
use Rattle.circ_top.proofs.Searches.{IsSearchEnd}

-- automata are read in one way
pub record AutomataOnce : Type 0 where
  pub automaton : (bytes : List ℕ) (m n : Machine) → ReadsAsAutomaton bytes m → ReadsAsAutomaton bytes n → n ≡ m
  pub either : (bytes : List ℕ) (m : Machine) (k : ℕ) (c : AutoCause) → ReadsAsAutomaton bytes m → FirstAutoCause bytes k c → ⊥
  pub alike : IsOneWay AutomatonRefusal

like_if_same : (c d : Cause) → c ≡ d → IsLikeCause c d
like_if_same c d e = let P : Cause → Type 0 = IsLikeCause c in subst P e (same_cause c)

pub automata_once : ((bytes : List ℕ) (m n : Machine) → ReadsAsAutomaton bytes m → ReadsAsAutomaton bytes n → n ≡ m)
    → ((bytes : List ℕ) (m : Machine) (k : ℕ) (c : AutoCause) → ReadsAsAutomaton bytes m → FirstAutoCause bytes k c → ⊥)
    → ((bytes : List ℕ) (j k : ℕ) (c d : AutoCause) → FirstAutoCause bytes j c → FirstAutoCause bytes k d → k ≡ j)
    → ((bytes : List ℕ) (j k : ℕ) (c d : AutoCause) → FirstAutoCause bytes j c → FirstAutoCause bytes k d → d ≡ c) → AutomataOnce
automata_once a e n l = record {
  automaton = a;
  either = e;
  alike = λ p q c d bytes x y. (
    sym (n bytes p q x.0 y.0 x.1.0 y.1.0),
    like_if_same c d (x.1.1 ∙ ap cause_of (sym (l bytes p q x.0 y.0 x.1.0 y.1.0)) ∙ sym y.1.1),
  );
}

pub second_alike : AutomataOnce → (m : Machine) → IsOneWay (SecondRefusal m)
second_alike once m p q c d bytes (inl x) (inl y) = once.alike p q c d bytes x y
second_alike once m p q c d bytes (inl x) (inr y) = absurd (once.either bytes y.n p x.0 y.reads x.1.0)
second_alike once m p q c d bytes (inr x) (inl y) = absurd (once.either bytes x.n q y.0 x.reads y.1.0)
second_alike once m p q c d bytes (inr x) (inr y) = (x.place_is ∙ sym y.place_is, like_if_same c d (x.cause_is ∙ sym y.cause_is))

-- comparing ends with status 0, or with a word
pub compared_end : (o : Option (List ℕ)) (s : Status) → s ≡ compared_status o → IsSearchEnd s × ((file n : ℕ) → s ≡ status.TooLong file n → ⊥)
compared_end None s e =
    (subst IsSearchEnd (sym e) tt, λ file n f. let never : status.Ok ≡ status.TooLong file n = sym e ∙ f in absurd (cc))
compared_end (Some w) s e =
    (subst IsSearchEnd (sym e) tt, λ file n f. let never : status.Differ (length w) ≡ status.TooLong file n = sym e ∙ f in absurd (cc))

-- what comparing gives is the same, or another word of the same length
pub compares_alike : (m n : Machine) (o p : Option (List ℕ)) → Compares m n o → Compares m n p
    → IsLike (compared_status o) (compared_text m o) (compared_status p) (compared_text m p)
compares_alike m n None None a b = itself (compared_status None) (compared_text m None)
compares_alike m n None (Some w) a b = absurd (b.0.differs (a w b.0.word))
compares_alike m n (Some v) None a b = absurd (a.0.differs (b v a.0.word))
compares_alike m n (Some v) (Some w) a b =
    let same : length v ≡ length w = omega (arith, a.1 w b.0, b.1 v a.0) in
    let P : ℕ → Type 0 = λ k. IsLike (status.Differ (length v)) (compared_text m (Some v)) (status.Differ k) (compared_text m (Some w)) in
    subst P same (another_word (letters_of m v) (letters_of m w) (length v) (length-map v _) (length-map w _ ∙ sym same))

module _ (first second : List ℕ) (before after : ShelfState) where
  pub same_not_ok : (s : Status) → RefusesSame first second before after s → s ≡ status.Ok → ⊥
  same_not_ok s (first_fault _ f) e = file_fault_not_ok 1 first AutomatonRefusal before after s e f
  same_not_ok s (second_fault _ m a f) e = file_fault_not_ok 2 second (SecondRefusal m) before after s e f

  pub same_not_refused : (s : Status) (n : ℕ) → RefusesSame first second before after s → s ≡ status.Refused n → ⊥
  same_not_refused s n (first_fault _ f) e = file_fault_not_refused 1 first AutomatonRefusal before after s n e f
  same_not_refused s n (second_fault _ m a f) e = file_fault_not_refused 2 second (SecondRefusal m) before after s n e f

  pub unread_same : (s : Status) (n : ℕ) → RefusesSame first second before after s → s ≡ status.ReadFault n
      → (n ≡ after.count) × AtAutomaton before first second (λ f name. IsUnread name before after)
  unread_same s n (first_fault _ f) e =
      let P : Status → Type 0 = IsFileFault 1 first AutomatonRefusal before after in let r = subst P e f in (r.0, inl r.1)
  unread_same s n (second_fault _ m a f) e =
      let P : Status → Type 0 = IsFileFault 2 second (SecondRefusal m) before after in let r = subst P e f in (r.0, inr (m, (a, r.1)))

  pub past_same : (s : Status) (file n : ℕ) → RefusesSame first second before after s → s ≡ status.TooLong file n
      → AtAutomaton before first second (λ f name. (f ≡ file) × IsTooLong name n before)
  past_same s file n (first_fault _ f) e =
      let P : Status → Type 0 = IsFileFault 1 first AutomatonRefusal before after in let r = subst P e f in inl (sym r.0, r.1)
  past_same s file n (second_fault _ m a f) e =
      let P : Status → Type 0 = IsFileFault 2 second (SecondRefusal m) before after in let r = subst P e f in inr (m, (a, (sym r.0, r.1)))

  pub unwritten_same : (s : Status) (n : ℕ) → RefusesSame first second before after s → s ≡ status.WriteFault n → ⊥
  unwritten_same s n (first_fault _ f) e = let P : Status → Type 0 = IsFileFault 1 first AutomatonRefusal before after in subst P e f
  unwritten_same s n (second_fault _ m a f) e = let P : Status → Type 0 = IsFileFault 2 second (SecondRefusal m) before after in subst P e f

  pub due_same : (words : List (List ℕ)) (s : Status) → before.tells ≡ true → Asks words (Same first second)
      → RefusesSame first second before after s → DueIs words before after s (refusal_text (Same first second) s) None
  due_same words s t i (first_fault _ f) =
      file_due words (Same first second) before after 1 first AutomatonRefusal s t i f (λ r x. (no_first r x, refl))
  due_same words s t i (second_fault _ m a f) =
      file_due words (Same first second) before after 2 second (SecondRefusal m) s t i f (λ r x. (no_second r m (a.reads t).0 x, refl))

-- what was compared is the outcome
pub compared_outcome : (first second : List ℕ) (before : ShelfState) (s : Status) (text : List ℕ) → before.tells ≡ true
    → IsCompared first second s text before → SameOutcome before.holds first second s text
compared_outcome first second before s text t a =
    let P : Status → Type 0 = λ x. SameOutcome before.holds first second x text in
    let Q : List ℕ → Type 0 = λ x. SameOutcome before.holds first second (compared_status a.compared.word) x in
    subst P (sym a.compared.status_is) (subst Q (sym a.compared.text_is)
    (compared a.m a.n a.compared.word (a.takes_first.reads t).0 (a.takes_second.reads t).0 a.compared.compares))

module _ (once : AutomataOnce) (first second : List ℕ) (before after : ShelfState) (t : before.tells ≡ true) where
  first_held : (s : Status) (text : List ℕ) → SameOutcome before.holds first second s text → before.holds first ≡ None → ⊥
  first_held s _ (no_first _ r) e = refused_held before.holds 1 first AutomatonRefusal s r e
  first_held s _ (no_second _ m rm r) e = holds_held before.holds first (λ b. ReadsAsAutomaton b m) rm e
  first_held _ _ (compared m n o rm rn c) e = holds_held before.holds first (λ b. ReadsAsAutomaton b m) rm e

  not_first : (s : Status) (m : Machine) → Holds before.holds first (λ b. ReadsAsAutomaton b m) → RefusesFile before.holds 1 first AutomatonRefusal s → ⊥
  not_first s m rm x =
      reads_not_refused before.holds 1 first AutomatonRefusal (λ b. ReadsAsAutomaton b m) s rm (λ p c b h n. once.either b m p n.0 h n.1.0) x

  no_second_cause : (m n : Machine) (p : ℕ) (c : Cause) (b : List ℕ) → ReadsOver m b n → SecondRefusal m p c b → ⊥
  no_second_cause m n p c b r (inl x) = once.either b n p x.0 r.0 x.1.0
  no_second_cause m n p c b r (inr x) = x.other (ap (λ k. k.letters) (once.automaton b n x.n r.0 x.reads) ∙ r.1)

  not_second : (s : Status) (m n : Machine) → Holds before.holds second (λ b. ReadsOver m b n)
      → RefusesFile before.holds 2 second (SecondRefusal m) s → ⊥
  not_second s m n rn x =
      reads_not_refused before.holds 2 second (SecondRefusal m) (λ b. ReadsOver m b n) s rn (λ p c b h k. no_second_cause m n p c b h k) x

  -- the outcome where the first file reads as this automaton alone
  data Fixed (m : Machine) : Status → List ℕ → Type 0 where
    second_refused : (s : Status) → RefusesFile before.holds 2 second (SecondRefusal m) s → Fixed m s (refusal_text (Same first second) s)
    both_read : (n : Machine) (o : Option (List ℕ)) → Holds before.holds second (λ b. ReadsOver m b n) → Compares m n o
        → Fixed m (compared_status o) (compared_text m o)

  fixed : (m : Machine) → IsOnly m (λ n. Holds before.holds first (λ b. ReadsAsAutomaton b n)) → (s : Status) (text : List ℕ)
      → SameOutcome before.holds first second s text → Fixed m s text
  fixed m only s _ (no_first _ r) = absurd (not_first s m only.0 r)
  fixed m only s _ (no_second _ k rk r) =
      let P : Machine → Type 0 = λ x. RefusesFile before.holds 2 second (SecondRefusal x) s in second_refused s (subst P (only.1 k rk) r)
  fixed m only _ _ (compared k n o rk rn c) =
      let P : Machine → Type 0 = λ x. Holds before.holds second (λ b. ReadsOver x b n) in
      let Q : Machine → Type 0 = λ x. Compares x n o in
      let R : Machine → Type 0 = λ x. Fixed m (compared_status o) (compared_text x o) in
      subst R (sym (only.1 k rk)) (both_read n o (subst P (only.1 k rk) rn) (subst Q (only.1 k rk) c))

  pub compared_agrees : (r : Status) (given : List ℕ) → IsCompared first second r given before → (s : Status) (text : List ℕ)
      → SameOutcome before.holds first second s text → Agrees before after s text r given
  compared_agrees r given a s text c = go s text (fixed a.m (a.takes_first.reads t) s text c)
    where
      go : (s : Status) (text : List ℕ) → Fixed a.m s text → Agrees before after s text r given
      go s _ (second_refused _ x) = absurd (not_second s a.m a.n (a.takes_second.reads t).0 x)
      go _ _ (both_read n o rn c) =
          let P : Machine → Type 0 = λ x. Compares a.m x o in
          let l = compares_alike a.m a.n o a.compared.word (subst P ((a.takes_second.reads t).1 n rn) c) a.compared.compares in
          let Q : Status → Type 0 = λ x. IsLike (compared_status o) (compared_text a.m o) x given in
          let R : List ℕ → Type 0 = λ x. IsLike (compared_status o) (compared_text a.m o) (compared_status a.compared.word) x in
          alike r given (subst Q (sym a.compared.status_is) (subst R (sym a.compared.text_is) l))

  second_held : (m : Machine) (s : Status) (text : List ℕ) → Fixed m s text → before.holds second ≡ None → ⊥
  second_held m s _ (second_refused _ r) e = refused_held before.holds 2 second (SecondRefusal m) s r e
  second_held m _ _ (both_read n o rn c) e = holds_held before.holds second (λ b. ReadsOver m b n) rn e

  second_agrees : (m : Machine) → (r s : Status) (text : List ℕ) → FaultOf 2 second (SecondRefusal m) before after r → Fixed m s text
      → Agrees before after s text r (refusal_text (Same first second) r)
  second_agrees m r s _ (refuses _ x) (second_refused _ y) =
      alike r (refusal_text (Same first second) r)
      (refused_alike (Same first second) before.holds 2 second (SecondRefusal m) s r (second_alike once m) y x)
  second_agrees m r _ _ (refuses _ x) (both_read n o rn c) = absurd (not_second r m n rn x)
  second_agrees m _ s text (unread n e u) f = unread_file n (unread_rose second before after (second_held m s text f) u)
  second_agrees m _ s text out_of_memory f = memory

  first_agrees : (r s : Status) (text : List ℕ) → FaultOf 1 first AutomatonRefusal before after r → SameOutcome before.holds first second s text
      → Agrees before after s text r (refusal_text (Same first second) r)
  first_agrees r s _ (refuses _ x) (no_first _ y) =
      alike r (refusal_text (Same first second) r)
      (refused_alike (Same first second) before.holds 1 first AutomatonRefusal s r once.alike y x)
  first_agrees r s _ (refuses _ x) (no_second _ m rm y) = absurd (not_first r m rm x)
  first_agrees r _ _ (refuses _ x) (compared m n o rm rn c) = absurd (not_first r m rm x)
  first_agrees _ s text (unread n e u) c = unread_file n (unread_rose first before after (first_held s text c) u)
  first_agrees _ s text out_of_memory c = memory

  pub same_agrees : (r s : Status) (text : List ℕ) → RefusesSame first second before after r → SameOutcome before.holds first second s text
      → Agrees before after s text r (refusal_text (Same first second) r)
  same_agrees r s text (first_fault _ f) c = first_agrees r s text (fault_of 1 first AutomatonRefusal before after r t f) c
  same_agrees r s text (second_fault _ m a f) c =
      second_agrees m r s text (fault_of 2 second (SecondRefusal m) before after r t f) (fixed m (a.reads t) s text c)
