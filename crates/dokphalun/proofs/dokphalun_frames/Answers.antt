-- `dokphalun::dokphalun_frames` meets its contract: it hands its lists over as they came. Assumes nothing.
use Rattle.dokphalun.proofs.dokphalun_frames.Goals as goal

pub returns : goal.returns
returns c = c.generate_tangent_space.ensures
