use Rattle.st_header.proofs.Headers.{one_spelling}
use Rattle.st_header.proofs.laws.one_spelling.Goals as goal

pub returns : goal.returns
returns c = λ n m s t rest more n_fits m_fits s_fits t_fits same. one_spelling n m s t rest more n_fits m_fits s_fits t_fits same
