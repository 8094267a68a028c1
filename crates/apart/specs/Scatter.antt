-- The words of an island's faces, put into their places. Definitions only.
use Rattle.std.specs.Prelude.{ℕ, ◌+◌, ◌*◌, ◌≤◌, ◌<◌, ◌≡◌, Bool, true, false, length, get_or, take, Float}
use mathlib.Core.List.{List, [], flat_map}
use Rattle.tangent.specs.Slot as slot
use Rattle.tangent.specs.Slot.{slot_words}
use Rattle.definition.specs.declared.Corner.{Corner}
use Rattle.definition.specs.Handed.{used, slots_of, slot_count}
use Rattle.definition.specs.Frames.{frames}
use Rattle.islands.specs.Together.{picked}
use Rattle.apart.specs.Lists.{Past}
use Rattle.apart.specs.Order.{among, Linked, Begun}

-- the words of face g: those of its frames in the whole mesh
unfoldable pub words_for : Float → List (List Corner) → ℕ → List ℕ
words_for h m g = flat_map slot.words (get_or (frames h m) g [])

-- the words W of the faces that pass q stand one after the other
pub record Stand (q : ℕ → Bool) (sizes : List ℕ) (W : ℕ → List ℕ) (own : List ℕ) : Type 0 where
  pub long : slot_words * (4 * length sizes) ≤ length own
  pub words : (g : ℕ) → g < length sizes → q g ≡ true → (i : ℕ) → i < slot_words * slots_of (get_or sizes g 0) → get_or own (slot_words * slot_count (picked q 0 (take g sizes)) + i) 0 ≡ get_or (W g) i 0

-- numbers l of the faces, and words W for them: those of island t, which has faces of 3 or 4 alone, stand one after the other
pub record Scene (sizes order own : List ℕ) (t : ℕ) : Type 0 where
  pub l : ℕ → ℕ
  pub W : ℕ → List ℕ
  pub linked : Linked (length sizes) l 0 order
  pub begun : Begun sizes (length sizes) order
  pub fit : (x : ℕ) → x < length sizes → l x ≡ t → used (get_or sizes x 0) ≡ true
  pub stand : Stand (among l t) sizes W own

-- u becomes v: of the first f faces those that pass q have their words in their places, and the other faces' words are as they were
pub record Put (q : ℕ → Bool) (sizes : List ℕ) (W : ℕ → List ℕ) (f : ℕ) (u v : List ℕ) : Type 0 where
  pub past : Past 0 (slot_words * slot_count sizes) u v
  pub here : (g : ℕ) → g < f → q g ≡ true → (i : ℕ) → i < slot_words * slots_of (get_or sizes g 0) → get_or v (slot_words * slot_count (take g sizes) + i) 0 ≡ get_or (W g) i 0
  pub there : (g : ℕ) → g < length sizes → q g ≡ false → (i : ℕ) → i < slot_words * slots_of (get_or sizes g 0) → get_or v (slot_words * slot_count (take g sizes) + i) 0 ≡ get_or u (slot_words * slot_count (take g sizes) + i) 0

-- the faces whose numbers l are below t have their words in their places in v, which was u
pub record Placed (sizes : List ℕ) (W : ℕ → List ℕ) (l : ℕ → ℕ) (t : ℕ) (u v : List ℕ) : Type 0 where
  pub past : Past 0 (slot_words * slot_count sizes) u v
  pub done : (g : ℕ) → g < length sizes → l g < t → (i : ℕ) → i < slot_words * slots_of (get_or sizes g 0) → get_or v (slot_words * slot_count (take g sizes) + i) 0 ≡ get_or (W g) i 0
