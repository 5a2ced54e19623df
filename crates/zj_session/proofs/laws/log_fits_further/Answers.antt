use Rattle.zj_session.proofs.LogFits as fits
use Rattle.zj_session.proofs.laws.log_fits_further.Goals as goal

pub returns : goal.returns
returns c = fits.log_fits_further
