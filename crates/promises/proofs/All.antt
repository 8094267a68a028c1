-- Every promise, proved. Assumes nothing.
use Rattle.promises.specs.All.{AllPromised}
use Rattle.promises.proofs.PublicCall as PublicCall
use Rattle.promises.proofs.Demand1 as Demand1
use Rattle.promises.proofs.Editions as Editions
use Rattle.promises.proofs.Determined as Determined
use Rattle.promises.proofs.Demand3 as Demand3
use Rattle.promises.proofs.OldShuffle as OldShuffle
use Rattle.promises.proofs.Directions as Directions
use Rattle.promises.proofs.Origins as Origins
use Rattle.promises.proofs.Reasons as Reasons
use Rattle.promises.proofs.BeforeE7 as BeforeE7
use Rattle.promises.proofs.Impostors as Impostors
use Rattle.promises.proofs.Faithful as Faithful
use Rattle.promises.proofs.FaceParts as FaceParts
use Rattle.promises.proofs.OwnLinks as OwnLinks
use Rattle.promises.proofs.OwnColumns as OwnColumns
use Rattle.promises.proofs.Moments as Moments
use Rattle.promises.proofs.FourFunctions as FourFunctions
use Rattle.promises.proofs.TwoWalks as TwoWalks
use Rattle.promises.proofs.NarrowAngles as NarrowAngles
use Rattle.promises.proofs.Cosines as Cosines
use Rattle.promises.proofs.ClosedFaces as ClosedFaces
use Rattle.promises.proofs.Islands as Islands
use Rattle.promises.proofs.Explained as Explained
use Rattle.promises.proofs.Labels as Labels
use Rattle.promises.proofs.Examiner as Examiner
use Rattle.promises.proofs.OwnGiven as OwnGiven
use Rattle.promises.proofs.ThreeSides as ThreeSides
use Rattle.promises.proofs.Cards as Cards
use Rattle.promises.proofs.Appends as Appends
use Rattle.promises.proofs.Packed as Packed
use Rattle.promises.proofs.Worth as Worth

pub all-promised : AllPromised
all-promised =
    record {
      public_call = PublicCall.public_call;
      demand_1 = Demand1.demand1;
      determined = Determined.determined;
      demand_3 = Demand3.demand3;
      directions = Directions.directions;
      editions = Editions.editions;
      old_shuffle = OldShuffle.old_shuffle;
      origins = Origins.origins;
      reasons = Reasons.reasons;
      before_e7 = BeforeE7.before_e7;
      impostors = Impostors.impostors;
      faithful = Faithful.faithful;
      face_parts = FaceParts.face_parts;
      four_functions = FourFunctions.four_functions;
      own-links = OwnLinks.own-links;
      own_columns = OwnColumns.own_columns;
      every_moment = Moments.at-every-moment;
      same_members = TwoWalks.same_members;
      same-words = TwoWalks.same-words;
      narrow_angles = NarrowAngles.narrow_angles;
      cosines = Cosines.cosines;
      closed_faces = ClosedFaces.closed_faces;
      islands = Islands.islands-call;
      labels = Labels.labels-call;
      examiner = Examiner.examiner;
      own_accepted = Examiner.own_accepted;
      own_lists = OwnGiven.own_lists;
      three-sides = ThreeSides.three-sides;
      explained = Explained.explained;
      cards = Cards.cards-promised;
      appends = Appends.appends-promised;
      packed = Packed.packed-promised;
      worth = Worth.worth-promised;
    }
