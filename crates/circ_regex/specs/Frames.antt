-- Reading an expression byte by byte, with a frame for each open parenthesis.
use Rattle.std.specs.Prelude.{◌≡◌, ℕ, List, [], ◌∷◌, ◌==◌, if◌then◌else◌, Bool, true, false, map, reverse, Option, Some, None}
use Rattle.std.specs.Option.{option_and_then}
use Rattle.circ_regex.specs.declared.regex.Regex.{Regex}
use Rattle.circ_regex.specs.declared.reader.Open.{Open}
use Rattle.circ_regex.specs.declared.reader.Reader.{Reader}
use Rattle.circ_regex.specs.Matches.{a_letter, b_letter, Expression, no_word, empty_word, one_letter, either_of, in_turn, any_number, plain_regex}

-- the products before a plus, and the factors of the product that is being read, the latest first
pub record Frame : Type 0 where
  pub products : List Expression
  pub factors : List Expression

-- the frame that is being read, and those around it, the latest first
pub record Frames : Type 0 where
  pub now : Frame
  pub outer : List Frame

abbrev pub frame_with : (products factors : List Expression) → Frame
frame_with ps fs = record { products = ps; factors = fs }

abbrev pub frames_with : Frame → List Frame → Frames
frames_with now outer = record { now = now; outer = outer }

abbrev pub empty_frame : Frame
empty_frame = frame_with [] []

-- what stands before the first byte
abbrev pub no_frames : Frames
no_frames = frames_with empty_frame []

-- the last expression under those before it, nested to the right
abbrev pub nested : (Expression → Expression → Expression) → Expression → (before : List Expression) → Expression
nested op e [] = e
nested op e (f ∷ fs) = nested op (op f e) fs

abbrev pub with_factor : Expression → Frames → Frames
with_factor e st = frames_with (frame_with st.now.products (e ∷ st.now.factors)) st.outer

-- the sum of a frame
abbrev pub frame_sum : (products factors : List Expression) → Option Expression
frame_sum ps [] = None
frame_sum ps (f ∷ fs) = Some (nested either_of (nested in_turn f fs) ps)

-- what the bytes * + ( ) do
abbrev pub on_star : (products factors : List Expression) → List Frame → Option Frames
on_star ps [] outer = None
on_star ps (f ∷ fs) outer = Some (frames_with (frame_with ps (any_number f ∷ fs)) outer)

abbrev pub on_plus : (products factors : List Expression) → List Frame → Option Frames
on_plus ps [] outer = None
on_plus ps (f ∷ fs) outer = Some (frames_with (frame_with (nested in_turn f fs ∷ ps) []) outer)

abbrev pub on_open : Frames → Option Frames
on_open st = Some (frames_with empty_frame (st.now ∷ st.outer))

abbrev pub into_outer : List Frame → Expression → Option Frames
into_outer [] e = None
into_outer (f ∷ fs) e = Some (frames_with (frame_with f.products (e ∷ f.factors)) fs)

abbrev pub on_close : (products factors : List Expression) → List Frame → Option Frames
on_close ps fs outer = option_and_then (into_outer outer) (frame_sum ps fs)

abbrev pub on_mark : ℕ → Frames → Option Frames
on_mark k st =
    if k == 42 then on_star st.now.products st.now.factors st.outer
    else if k == 43 then on_plus st.now.products st.now.factors st.outer
    else if k == 40 then on_open st
    else if k == 41 then on_close st.now.products st.now.factors st.outer
    else None

-- the expression that the byte is by itself: a b 0 1
abbrev pub atom_of : ℕ → Option Expression
atom_of k =
    if k == 97 then Some (one_letter a_letter)
    else if k == 98 then Some (one_letter b_letter)
    else if k == 48 then Some no_word
    else if k == 49 then Some empty_word
    else None

abbrev pub on_atom : Option Expression → (byte : ℕ) → Frames → Option Frames
on_atom None k st = on_mark k st
on_atom (Some e) k st = Some (with_factor e st)

abbrev pub on_byte : ℕ → Frames → Option Frames
on_byte k st = on_atom (atom_of k) k st

abbrev pub on_bytes : List ℕ → Frames → Option Frames
on_bytes [] st = Some st
on_bytes (k ∷ ks) st = option_and_then (on_bytes ks) (on_byte k st)

-- the sum of the outermost frame, where no parenthesis is open
abbrev pub whole_sum : List Frame → Frame → Option Expression
whole_sum [] f = frame_sum f.products f.factors
whole_sum (g ∷ gs) f = None

-- the expression that the bytes spell
abbrev pub expression_read : List ℕ → Option Expression
expression_read ks = option_and_then (λ st. whole_sum st.outer st.now) (on_bytes ks no_frames)

-- the code's vectors have the latest last
abbrev pub plain_stack : List Regex → List Expression
plain_stack es = map plain_regex (reverse es)

abbrev pub frame_of : Open → Frame
frame_of f = frame_with (plain_stack f.products.items) (plain_stack f.factors.items)

abbrev pub frames_of : Reader → Frames
frames_of r = frames_with (frame_of r.now) (map frame_of (reverse r.outer.items))

-- whether a step was taken, and where it leads
abbrev pub LeadsTo : (took : Bool) → Option Frames → Frames → Type 0
LeadsTo true o st = o ≡ Some st
LeadsTo false o st = o ≡ None
