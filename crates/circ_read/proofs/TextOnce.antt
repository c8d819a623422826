-- Bytes lead to one value, or have one first cause.
use Rattle.std.proofs.Common.{◌≡◌, ℕ, ◌+◌, List, Bool, Option, Some, None, Result, Err, refl, sym, ap, subst}
use Rattle.circ_lexer.specs.declared.tokens.Span.{Span}
use Rattle.circ_lexer.specs.declared.fault.LexFault.{LexFault}
use Rattle.circ_lexer.specs.Cuts.{Cuts, IsFirstBad}
use Rattle.circ_lexer.specs.TokenList.{AreTokens}
use Rattle.circ_statement.specs.Said.{Said}
use Rattle.circ_read.specs.declared.cause.Cause.{Cause}
use Rattle.circ_read.specs.Causes.{AreAlike, same, byte_cause}
use Rattle.circ_read.specs.Text.{IsTextHead, ending, Reaches, ReadsTo}
use Rattle.circ_read.specs.Failing.{Breaks, FailsAt, at_a_byte, at_the_head, in_the_body}
use Rattle.circ_read.specs.Steps.{SaidOutcome}
use Rattle.circ_read.proofs.Stops.{SameHead, head_once}
use Rattle.circ_read.proofs.Once.{SaidOnce, ends_once, ends_or_breaks, breaks_once}

-- how bytes are cut
pub record CutOnce : Type 0 where
  pub tokens : (bytes : List ℕ) (ws vs : List (List ℕ)) → AreTokens bytes ws → AreTokens bytes vs → vs ≡ ws
  pub one : (bytes : List ℕ) (ss us : List Span) (o p : Option LexFault) → Cuts 0 bytes ss o → Cuts 0 bytes us p → (us ≡ ss) × (p ≡ o)

module _ (cut : CutOnce) (bytes : List ℕ) where
  pub bad_once : (f g : LexFault) → IsFirstBad bytes f → IsFirstBad bytes g → g ≡ f
  bad_once f g h k = let e = (cut.one bytes h.0 k.0 (Some f) (Some g) h.1 k.1).1 in cc

  pub bad_or_tokens : (f : LexFault) (ws : List (List ℕ)) → IsFirstBad bytes f → AreTokens bytes ws → ⊥
  bad_or_tokens f ws h k = let e = (cut.one bytes h.0 k.0 (Some f) None h.1 k.1.0).1 in cc

  head_same : (ws vs : List (List ℕ)) (o p : Bool) (n m : List ℕ) (b d : List (List ℕ)) → AreTokens bytes ws → AreTokens bytes vs → IsTextHead ws o n b → IsTextHead vs p m d
      → SameHead o p n m b d
  head_same ws vs o p n m b d t u h k = head_once ws o p n m b d h (subst (λ x. IsTextHead x p m d) (cut.tokens bytes ws vs t u) k)

module _ (cut : CutOnce) (law : SaidOnce) {A : Type 0} (Adds : A → Said → A → Type 0) (Refuses : A → Said → Cause → Type 0)
    (outcome_once : (a : A) (s : Said) (r q : Result A Cause) → SaidOutcome Adds Refuses a s r → SaidOutcome Adds Refuses a s q → AreAlike r q) (begin : List ℕ → A) (bytes : List ℕ) where
  reaches_as : (o p : Bool) (n m : List ℕ) (b d : List (List ℕ)) → SameHead o p n m b d → (k : ℕ) (a : A) → Reaches Adds (begin m) d k a (ending p) → Reaches Adds (begin n) b k a (ending o)
  reaches_as o p n m b d s k a r =
      subst (λ x. Reaches Adds (begin n) b k a (ending x)) (sym s.opened) (subst (λ x. Reaches Adds (begin x) b k a (ending p)) (sym s.name) (subst (λ x. Reaches Adds (begin m) x k a (ending p)) (sym s.body) r))

  breaks_as : (o p : Bool) (n m : List ℕ) (b d : List (List ℕ)) → SameHead o p n m b d → (k : ℕ) (c : Cause) → Breaks Adds Refuses (begin m) d p k c → Breaks Adds Refuses (begin n) b o k c
  breaks_as o p n m b d s k c r =
      subst (λ x. Breaks Adds Refuses (begin n) b x k c) (sym s.opened) (subst (λ x. Breaks Adds Refuses (begin x) b p k c) (sym s.name) (subst (λ x. Breaks Adds Refuses (begin m) x p k c) (sym s.body) r))

  pub leads_once : (a b : A) → ReadsTo Adds begin bytes a → ReadsTo Adds begin bytes b → b ≡ a
  leads_once a b h k =
      let heads = head_same cut bytes h.tokens k.tokens h.opened k.opened h.name k.name h.body k.body h.are_tokens k.are_tokens h.head k.head in
      sym (ends_once law Adds Refuses outcome_once (begin h.name) h.body h.opened h.count k.count a b h.statements (reaches_as _ _ _ _ _ _ heads k.count b k.statements))

  pub leads_or_fails : (a : A) (n : ℕ) (c : Cause) → ReadsTo Adds begin bytes a → FailsAt Adds Refuses begin bytes n c → ⊥
  leads_or_fails a n c h (at_a_byte f k) = bad_or_tokens cut bytes f h.tokens k h.are_tokens
  leads_or_fails a n c h (at_the_head ws t lacks) = lacks h.opened h.name h.body (subst (λ x. IsTextHead x h.opened h.name h.body) (cut.tokens bytes ws h.tokens t h.are_tokens) h.head)
  leads_or_fails a n c h (in_the_body ws o m b k d t i e) =
      let heads = head_same cut bytes h.tokens ws h.opened o h.name m h.body b h.are_tokens t h.head i in
      ends_or_breaks law Adds Refuses outcome_once (begin h.name) h.body h.opened h.count k a c h.statements (breaks_as _ _ _ _ _ _ heads k c e)

  no_head_in_body : (ws vs : List (List ℕ)) (o : Bool) (m : List ℕ) (b : List (List ℕ)) → AreTokens bytes ws → AreTokens bytes vs → ((p : Bool) (n : List ℕ) (d : List (List ℕ)) → IsTextHead ws p n d → ⊥)
      → IsTextHead vs o m b → ⊥
  no_head_in_body ws vs o m b t u lacks i = lacks o m b (subst (λ x. IsTextHead x o m b) (cut.tokens bytes ws vs t u) i)

  pub fails_once : (n m : ℕ) (c d : Cause) → FailsAt Adds Refuses begin bytes n c → FailsAt Adds Refuses begin bytes m d → (m ≡ n) × AreAlike {A = A} (Err c) (Err d)
  fails_once n m c d (at_a_byte f h) (at_a_byte g k) = (refl, subst (λ x. AreAlike {A = A} (Err c) (Err x)) (ap byte_cause (sym (bad_once cut bytes f g h k))) same)
  fails_once n m c d (at_a_byte f h) (at_the_head ws t lacks) = absurd (bad_or_tokens cut bytes f ws h t)
  fails_once n m c d (at_a_byte f h) (in_the_body ws o x b k y t i e) = absurd (bad_or_tokens cut bytes f ws h t)
  fails_once n m c d (at_the_head ws t lacks) (at_a_byte f h) = absurd (bad_or_tokens cut bytes f ws h t)
  fails_once n m c d (at_the_head ws t lacks) (at_the_head vs u none) = (refl, same)
  fails_once n m c d (at_the_head ws t lacks) (in_the_body vs o x b k y u i e) = absurd (no_head_in_body ws vs o x b t u lacks i)
  fails_once n m c d (in_the_body ws o x b k y t i e) (at_a_byte f h) = absurd (bad_or_tokens cut bytes f ws h t)
  fails_once n m c d (in_the_body ws o x b k y t i e) (at_the_head vs u lacks) = absurd (no_head_in_body vs ws o x b u t lacks i)
  fails_once n m c d (in_the_body ws o x b k y t i e) (in_the_body vs p z a j w u l f) =
      let heads = head_same cut bytes ws vs o p x z b a t u i l in
      let r = breaks_once law Adds Refuses outcome_once (begin x) b o k j c d e (breaks_as _ _ _ _ _ _ heads j d f) in
      (ap (λ i. i + 2) r.0, r.1)
