-- From the commands of a job's rows, none of which begins a task.
use Rattle.air_world.proofs.files.JobTasks.{job-tasks}
use Rattle.air_world.proofs.files.job_tasks_law.Goals as goal

pub returns : goal.returns
returns c = job-tasks
