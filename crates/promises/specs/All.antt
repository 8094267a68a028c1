-- Every promise in one place: the theorem that README names is `all-promised` (proofs/All.antt). Definitions only.
use Rattle.promises.specs.PublicCall as PublicCall
use Rattle.promises.specs.Demand1 as Demand1
use Rattle.promises.specs.Editions as Editions
use Rattle.promises.specs.Determined as Determined
use Rattle.promises.specs.Demand3 as Demand3
use Rattle.promises.specs.OldShuffle as OldShuffle
use Rattle.promises.specs.Directions as Directions
use Rattle.promises.specs.Origins as Origins
use Rattle.promises.specs.Reasons as Reasons
use Rattle.promises.specs.BeforeE7 as BeforeE7
use Rattle.promises.specs.Impostors as Impostors
use Rattle.promises.specs.Faithful as Faithful
use Rattle.promises.specs.FaceParts as FaceParts
use Rattle.promises.specs.OwnLinks as OwnLinks
use Rattle.promises.specs.OwnColumns as OwnColumns
use Rattle.promises.specs.FourFunctions as FourFunctions
use Rattle.promises.specs.TwoWalks as TwoWalks
use Rattle.promises.specs.NarrowAngles as NarrowAngles
use Rattle.promises.specs.Cosines as Cosines
use Rattle.promises.specs.ClosedFaces as ClosedFaces
use Rattle.promises.specs.Islands as Islands
use Rattle.promises.specs.Explained as Explained
use Rattle.promises.specs.Labels as Labels
use Rattle.promises.specs.Examiner as Examiner
use Rattle.promises.specs.ThreeSides as ThreeSides
use Rattle.promises.specs.Cards.{CardsPromised}
use Rattle.promises.specs.Appends.{AppendsPromised}
use Rattle.promises.specs.Packed.{PackedPromised}
use Rattle.promises.specs.Worth.{WorthPromised}

pub record AllPromised : Type 1 where
  -- the public call: demands 1, 2 and 3, one outcome, directions (E6)
  pub public_call : PublicCall.Promised
  -- the demands of whatever the definition allows
  pub demand_1 : Demand1.Promised
  pub determined : Determined.Promised
  pub demand_3 : Demand3.Promised
  pub directions : Directions.Promised
  -- the editions (E13): demand 1 for both, and 8 for any other number; why demand 3 is of the corrected one alone
  pub editions : Editions.Promised
  pub old_shuffle : OldShuffle.Promised
  -- where a frame came from, and how many stood behind it (E7); the first ten words of every slot are those of before
  pub origins : Origins.Promised
  pub reasons : Reasons.Promised
  pub before_e7 : BeforeE7.Promised
  -- what tells the definition from its impostors
  pub impostors : Impostors.Promised
  -- what joins the definition to document 01's own words
  pub faithful : Faithful.Promised
  -- the part of a list that belongs to a face
  pub face_parts : FaceParts.Promised
  -- links, groups and orientations (E11): in its own words, of four functions that the columns instantiate; in the definition and in the columns
  pub four_functions : FourFunctions.Promised
  pub own-links : OwnLinks.Promised
  pub own_columns : OwnColumns.Promised
  pub every_moment : OwnColumns.AtEveryMoment
  -- the two walks of step 6 (E8): the same members on every mesh, the same words on every list
  pub same_members : TwoWalks.Promised
  pub same-words : TwoWalks.SameWords
  -- narrow angles (E3), and the table of cosines
  pub narrow_angles : NarrowAngles.Promised
  pub cosines : Cosines.Promised
  -- islands (E9): faces that share no welded corner with others, the call by islands, their labels
  pub closed_faces : ClosedFaces.Promised
  pub islands : Islands.Promised
  pub labels : Labels.Promised
  -- the examiner (E10), that our own lists are accepted, and what they are; two pairings that it accepts
  pub examiner : Examiner.Examiner
  pub own_accepted : Examiner.OwnAccepted
  pub own_lists : Examiner.OwnLists
  pub three-sides : ThreeSides.Promised
  -- frames and reasons by one call
  pub explained : Explained.Promised
  -- cards (E1), appending (E14), packed frames (E5), a verdict on every slot
  pub cards : CardsPromised
  pub appends : AppendsPromised
  pub packed : PackedPromised
  pub worth : WorthPromised
