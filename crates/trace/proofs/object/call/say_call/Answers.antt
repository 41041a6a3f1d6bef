use Rattle.trace.specs.CallObject.{call_object}
use Rattle.trace.proofs.object.call.say_call.Goals as goal

pub returns-in-RuntimeNext : goal.returns-in-RuntimeNext
unfolding call_object
returns-in-RuntimeNext c = rw c.in-RuntimeNext.is c.say_environment.ensures

pub returns-in-Response : goal.returns-in-Response
unfolding call_object
returns-in-Response c = rw c.in-Response.is c.say_report.ensures

pub returns-in-ResponseTooLarge : goal.returns-in-ResponseTooLarge
unfolding call_object
returns-in-ResponseTooLarge c = rw c.in-ResponseTooLarge.is c.say_counted.ensures

pub returns-in-ExtNext : goal.returns-in-ExtNext
unfolding call_object
returns-in-ExtNext c = rw c.in-ExtNext.is c.say_counted-in-ExtNext.ensures

pub returns-in-ExtInitFailure : goal.returns-in-ExtInitFailure
unfolding call_object
returns-in-ExtInitFailure c = rw c.in-ExtInitFailure.is c.say_report-in-ExtInitFailure.ensures

pub returns-in-ExtExitFailure : goal.returns-in-ExtExitFailure
unfolding call_object
returns-in-ExtExitFailure c = rw c.in-ExtExitFailure.is c.say_report-in-ExtExitFailure.ensures

pub returns-in-Expire : goal.returns-in-Expire
unfolding call_object
returns-in-Expire c = rw c.in-Expire.is c.say_environment-in-Expire.ensures
