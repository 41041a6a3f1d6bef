use Rattle.account_book.proofs.FormsAgree.{forms_agree}
use Rattle.account_book.proofs.laws.form_2_goes_as_far.Goals as goal

pub returns-clause-same : goal.returns-clause-same
returns-clause-same c = λ input other. (forms_agree input other).same

pub returns-clause-front : goal.returns-clause-front
returns-clause-front c = λ input other. (let far = forms_agree input other in (far.more, far.front))
