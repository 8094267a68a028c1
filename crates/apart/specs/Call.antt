-- Request E9: what the islands' call leaves behind, for every input whatever. Definitions only.
use Rattle.std.specs.Prelude.{ℕ, ◌*◌, ◌≡◌, Bool, ◌||◌, List, ◌++◌, ltb, length, drop, replicate, Float}
use Rattle.std.proofs.Math.Option.{Option, none, some}
use Rattle.bits.specs.Single.{zeroᶠ}
use Rattle.tangent.specs.Slot.{slot_words}
use Rattle.definition.specs.Limits.{work_words}
use Rattle.definition.specs.Handed.{Call, mesh_of, Handed, slot_count}
use Rattle.definition.specs.Desk.{Row, at_desk, verdict}
use Rattle.definition.specs.Outcome.{Result, answer_words, answered}
use Rattle.islands.specs.Rows.{labelled}
use Rattle.islands.specs.Together.{together}
use Rattle.islands.specs.Nine.{afterwards}
use Rattle.mikktspace.specs.declared.Outcome.{Outcome}
use Rattle.mikktspace.specs.Contract.{left}
use Rattle.apart.specs.Lists.{cleared}

-- the lists of its own: the faces' numbers; the order of the faces and where their corners and slots start; one island's sizes, its numbers (positions, then normals, then texture coordinates) and its answer
pub record Own : Type 0 where
  pub labels : List ℕ
  pub order : List ℕ
  pub sizes : List ℕ
  pub numbers : List Float
  pub frames : List ℕ

-- 'a length fixed in docs/': so many entries a face of the whole mesh
abbrev pub label_entries : ℕ
label_entries = 1

abbrev pub order_entries : ℕ
order_entries = 4

abbrev pub size_entries : ℕ
size_entries = 1

-- four corners of eight numbers
abbrev pub number_entries : ℕ
number_entries = 32

-- four slots a face
abbrev pub frame_entries : ℕ
frame_entries = 4 * slot_words

-- those lists, one by one
abbrev pub lists : List ℕ → List ℕ → List ℕ → List Float → List ℕ → Own
lists labels order sizes numbers frames = record { labels = labels; order = order; sizes = sizes; numbers = numbers; frames = frames }

-- whether one of these lengths is too short, for so many faces
unfoldable pub too_short : ℕ → ℕ → ℕ → ℕ → ℕ → ℕ → Bool
too_short faces labels order sizes numbers frames =
    ltb labels (label_entries * faces)
    || ltb order (order_entries * faces)
    || ltb sizes (size_entries * faces)
    || ltb numbers (number_entries * faces)
    || ltb frames (frame_entries * faces)

-- the same of the lists
unfoldable pub short : ℕ → Own → Bool
short faces o = too_short faces (length o.labels) (length o.order) (length o.sizes) (length o.numbers) (length o.frames)

-- 'A refusal for the whole mesh is found before the first island and given as the table says'
unfoldable pub verdict_of : Call → Own → Option Row
verdict_of x own = afterwards (verdict (at_desk x)) (short (length x.mesh.sizes) own)

-- acceptance: the frames put together from the islands, and the work list as one call leaves it
unfoldable pub accepted_of : Call → Result
accepted_of x =
    record {
      number = 0;
      place = 0;
      slots = slot_count x.mesh.sizes;
      answer = answer_words (together x.threshold (mesh_of x.mesh)) ++ drop (slot_words * slot_count x.mesh.sizes) x.answer;
      work = replicate (work_words * length x.mesh.sizes) 0 ++ drop (work_words * length x.mesh.sizes) x.work;
    }

-- its own lists after acceptance: the faces' numbers, and zeros wherever it has worked
unfoldable pub own_after : Handed → Own → Own
own_after mesh o =
    record {
      labels = labelled mesh o.labels;
      order = cleared 0 (order_entries * length mesh.sizes) o.order;
      sizes = cleared 0 (size_entries * length mesh.sizes) o.sizes;
      numbers = cleared zeroᶠ (number_entries * length mesh.sizes) o.numbers;
      frames = cleared 0 (frame_entries * length mesh.sizes) o.frames;
    }

-- a refusal leaves them as they were
unfoldable pub own_left : Option Row → Own → Own → Own
own_left none taken o = taken
own_left (some r) taken o = o

-- what the call leaves behind: what it returns with the two lists that one call has too, and its own lists
pub record Leaving : Type 0 where
  pub result : Result
  pub own : Own

-- the same, of what it returned and the lists after it
unfoldable pub leaving : Outcome → List ℕ → List ℕ → Own → Leaving
leaving r answer work o = record { result = left r answer work; own = o }

-- acceptance
unfoldable pub taken : Call → Own → Leaving
taken x o = record { result = accepted_of x; own = own_after x.mesh o }

unfoldable pub islands_outcome : Call → Own → Leaving
islands_outcome x o =
    let v = verdict_of x o in
    record {
      result = answered v (accepted_of x) x.answer x.work;
      own = own_left v (own_after x.mesh o) o;
    }

-- The contract of the islands' call x, which is lent lists of its own, o: it returns r, and leaves the answer list as b, the work list as v and its own lists as p.
abbrev pub Contract : Call → Own → Outcome → List ℕ → List ℕ → Own → Type 0
Contract x o r b v p = leaving r b v p ≡ islands_outcome x o
