use Rattle.zj_session.proofs.Handles as handles
use Rattle.zj_session.proofs.laws.fits_further.Goals as goal

pub returns : goal.returns
returns c = handles.fits_further
