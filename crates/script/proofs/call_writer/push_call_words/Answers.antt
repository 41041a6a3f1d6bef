use Rattle.script.specs.CallText.{call_words}
use Rattle.script.proofs.call_writer.push_call_words.Goals as goal

pub returns-in-ResponseTooLarge : goal.returns-in-ResponseTooLarge
unfolding call_words
returns-in-ResponseTooLarge g c = rw c.in-ResponseTooLarge.is c.push_count.ensures

pub returns-in-ExtInitFailure : goal.returns-in-ExtInitFailure
unfolding call_words
returns-in-ExtInitFailure g c = rw c.in-ExtInitFailure.is c.push_report-in-ExtInitFailure.ensures

pub returns-in-ExtExitFailure : goal.returns-in-ExtExitFailure
unfolding call_words
returns-in-ExtExitFailure g c = rw c.in-ExtExitFailure.is c.push_report-in-ExtExitFailure.ensures
