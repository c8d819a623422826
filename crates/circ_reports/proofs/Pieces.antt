-- A proof that is read and checked as its text comes.
use Rattle.std.proofs.Common.{◌≡◌, ◌≢◌, ◌≤◌, ◌+◌, ◌∙◌, ℕ, List, [], ◌∷◌, ◌++◌, length, map, Some, refl, sym, ap, subst, arith, length-append, append_assoc, append-nil}
use Rattle.circ_theory.specs.Theory.{Theory}
use Rattle.circ_proof.specs.Parts.{Part, Head, Certificate, Goals, Step, block_parts, parts_of}
use Rattle.circ_proof.specs.Proof.{Block, Proof}
use Rattle.circ_check.specs.Deciding.{plain_list}
use Rattle.circ_check.specs.Watching as checker
use Rattle.circ_proof_text.specs.ProofText.{ReadsAsProof}
use Rattle.circ_file.specs.Feeding as reader
use Rattle.circ_file.specs.declared.fault.FileFault.{FileFault}
use Rattle.circ_file.specs.declared.fault.FileFault.TheVariants.{Memory}
use Rattle.circ_file.specs.declared.reader.FileReader.{FileReader}
use Rattle.circ_reports.specs.Incoming.{goals_among, HasRead, Follows, all_checked, at_fault, HasTaken}
use Rattle.circ_reports.specs.declared.incoming.Incoming.{Incoming}

goals_among-append : (xs ys : List Part) → goals_among (xs ++ ys) ≡ goals_among xs ++ goals_among ys
goals_among-append [] ys = refl
goals_among-append (Head table places ∷ xs) ys = goals_among-append xs ys
goals_among-append (Certificate links ∷ xs) ys = goals_among-append xs ys
goals_among-append (Goals goals names ∷ xs) ys = ap (λ gs. goals ∷ gs) (goals_among-append xs ys)
goals_among-append (Step step ∷ xs) ys = goals_among-append xs ys

-- parts that begin no block
goals_among-map : {A : Type 0} (f : A → Part) → ((x : A) (xs : List Part) → goals_among (f x ∷ xs) ≡ goals_among xs) → (ys : List A) (xs : List Part)
    → goals_among (map f ys ++ xs) ≡ goals_among xs
goals_among-map f none [] xs = refl
goals_among-map f none (x ∷ ys) xs = none x (map f ys ++ xs) ∙ goals_among-map f none ys xs

goals_among-blocks : (bs : List Block) → goals_among (block_parts bs) ≡ map (λ b. b.goals) bs
goals_among-blocks [] = refl
goals_among-blocks (b ∷ bs) = ap (λ gs. b.goals ∷ gs) (goals_among-map Step (λ s xs. refl) b.steps (block_parts bs) ∙ goals_among-blocks bs)

goals_among-parts : (p : Proof) → goals_among (parts_of p) ≡ map (λ b. b.goals) p.blocks
goals_among-parts p = goals_among-map Certificate (λ ls xs. refl) p.certificates (block_parts p.blocks) ∙ goals_among-blocks p.blocks

-- one part more
pub part_taken : (th : Theory) (bytes : List ℕ) (parts : List Part) (x : Part) (r : FileReader) (old new : Incoming) → HasRead th bytes parts old
    → reader.Stands th bytes (parts ++ x ∷ []) r → new.reader ≡ r → checker.Stands th (parts ++ x ∷ []) new.checker
    → map plain_list new.goals.items ≡ map plain_list old.goals.items ++ goals_among (x ∷ [])
    → HasRead th bytes (parts ++ x ∷ []) new
part_taken th bytes parts x r old new h s e k g =
    let P : FileReader → Type 0 = λ f. reader.Stands th bytes (parts ++ x ∷ []) f in
    record {
      read = subst P (sym e) s;
      checked = k;
      goals = g ∙ ap (λ gs. gs ++ goals_among (x ∷ [])) h.goals ∙ sym (goals_among-append parts (x ∷ []));
    }

-- bytes without a fault have been read
pub parts_read : (th : Theory) (bytes : List ℕ) (inc : Incoming) → Follows th bytes inc → ((e : FileFault) → reader.fault_of inc.reader ≡ Some e → ⊥)
    → (parts : List Part) × HasRead th bytes parts inc
parts_read th bytes inc (all_checked parts h w) none = (parts, h)
parts_read th bytes inc (at_fault e f m later) none = absurd (none e f)

-- a piece more has been read
pub piece_read : (th : Theory) (bytes piece : List ℕ) (parts : List Part) (old : Incoming) (r : FileReader) → HasRead th bytes parts old
    → reader.Stands th (bytes ++ piece) parts r → HasRead th (bytes ++ piece) parts (record old { reader = r })
piece_read th bytes piece parts old r h s = record { read = s; checked = h.checked; goals = h.goals }

few_lines : (n m k : ℕ) (bytes piece : List ℕ) → n ≤ length bytes → m ≤ n + length piece → k ≡ m → k ≤ length (bytes ++ piece)
few_lines n m k bytes piece a b e = omega (arith, a, b, e, length-append bytes piece)

-- a piece that is read without a fault
pub piece_taken : (th : Theory) (bytes piece : List ℕ) (old new : Incoming) (r : FileReader) → HasTaken th bytes old
    → ((e : FileFault) → reader.fault_of old.reader ≡ Some e → ⊥)
    → ((parts : List Part) → reader.Stands th bytes parts old.reader → reader.Stands th (bytes ++ piece) parts r)
    → ((parts : List Part) → HasRead th (bytes ++ piece) parts (record old { reader = r }) → (all : List Part) × HasRead th (bytes ++ piece) all new)
    → reader.waiting_in new.reader ≡ [] → new.theory.now ≡ old.theory.now → reader.IsSound new.reader
    → reader.whole_lines_in r ≤ reader.whole_lines_in old.reader + length piece → reader.whole_lines_in new.reader ≡ reader.whole_lines_in r
    → HasTaken th (bytes ++ piece) new
piece_taken th bytes piece old new r t none fed taken w e sound few same =
    let h = parts_read th bytes old t.follows none in
    let all = taken h.0 (piece_read th bytes piece h.0 old r h.1 (fed h.0 h.1.read)) in
    record {
      theory = e ∙ t.theory;
      sound = sound;
      lines = few_lines (reader.whole_lines_in old.reader) (reader.whole_lines_in r) (reader.whole_lines_in new.reader) bytes piece t.lines few same;
      follows = all_checked all.0 all.1 w;
    }

-- a piece by which the bytes are at fault, or after which they were
pub fault_taken : (th : Theory) (bytes piece : List ℕ) (old : Incoming) (r : FileReader) (e : FileFault) → HasTaken th bytes old → e ≢ Memory
    → ((parts : List Part) → reader.Stands th bytes parts old.reader
    → (reader.fault_of r ≡ Some e) × ((later : List ℕ) → reader.FaultIs th ((bytes ++ piece) ++ later) e))
    → ((f : FileFault) → reader.fault_of old.reader ≡ Some f → reader.fault_of r ≡ Some f)
    → reader.IsSound r → reader.whole_lines_in r ≤ reader.whole_lines_in old.reader + length piece
    → HasTaken th (bytes ++ piece) (record old { reader = r })
fault_taken th bytes piece old r e t m fed kept sound few = record {
  theory = t.theory;
  sound = sound;
  lines = few_lines (reader.whole_lines_in old.reader) (reader.whole_lines_in r) (reader.whole_lines_in r) bytes piece t.lines few refl;
  follows = go t.follows;
}
  where
    new : Incoming
    new = record old { reader = r }

    go : Follows th bytes old → Follows th (bytes ++ piece) new
    go (all_checked parts h w) = let f = fed parts h.read in at_fault e f.0 m f.1
    go (at_fault f k o later) =
        let P : List ℕ → Type 0 = λ y. reader.FaultIs th y f in
        at_fault f (kept f k) o (λ rest. subst P (sym (append_assoc bytes piece rest)) (later (piece ++ rest)))

-- the fault of bytes that end
pub end_fault : (th : Theory) (bytes : List ℕ) (inc : Incoming) (e : FileFault) → Follows th bytes inc
    → ((parts : List Part) → reader.Stands th bytes parts inc.reader → reader.FaultIs th bytes e)
    → ((f : FileFault) → reader.fault_of inc.reader ≡ Some f → f ≡ e)
    → reader.FaultIs th bytes e
end_fault th bytes inc e (all_checked parts h w) ends same = ends parts h.read
end_fault th bytes inc e (at_fault f k m later) ends same =
    let P : List ℕ → Type 0 = λ y. reader.FaultIs th y f in
    let Q : FileFault → Type 0 = λ d. reader.FaultIs th bytes d in
    subst Q (same f k) (subst P (append-nil bytes) (later []))

-- the bytes read as this proof, which was checked whole, and its goals are kept
pub record IsWhole (th : Theory) (bytes : List ℕ) (inc : Incoming) (p : Proof) : Type 0 where
  pub reads : ReadsAsProof th bytes p
  pub checked : checker.Stands th (parts_of p) inc.checker
  pub goals : map (λ b. b.goals) p.blocks ≡ map plain_list inc.goals.items

-- bytes that end without a fault
pub whole : (th : Theory) (bytes : List ℕ) (inc : Incoming) → Follows th bytes inc
    → ((parts : List Part) → reader.Stands th bytes parts inc.reader
    → (p : Proof) × ReadsAsProof th bytes p × (parts ++ reader.waiting_in inc.reader ≡ parts_of p))
    → ((e : FileFault) → reader.fault_of inc.reader ≡ Some e → ⊥)
    → (p : Proof) × IsWhole th bytes inc p
whole th bytes inc (at_fault e k m later) ends none = absurd (none e k)
whole th bytes inc (all_checked parts h w) ends none =
    let told = ends parts h.read in
    let p = told.0 in
    let same : parts ≡ parts_of p = sym (append-nil parts) ∙ ap (λ xs. parts ++ xs) (sym w) ∙ told.2 in
    let P : List Part → Type 0 = λ xs. checker.Stands th xs inc.checker in
    (p, record { reads = told.1; checked = subst P same h.checked; goals = sym (goals_among-parts p) ∙ ap goals_among (sym same) ∙ sym h.goals })
