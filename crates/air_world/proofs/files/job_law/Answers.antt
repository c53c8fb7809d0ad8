-- From the laws of a job's table.
use Rattle.air_world.proofs.files.DownloadJob.{download-one}
use Rattle.air_world.proofs.files.JobAll.{job-law, one-any}
use Rattle.air_world.proofs.files.JobOne.{upload-one}
use Rattle.air_world.proofs.files.ListJob.{list-one}
use Rattle.air_world.proofs.files.job_law.Goals as goal

pub returns : goal.returns
returns c = job-law c.promises_law.ensures.packet c.promises_law.ensures.due (one-any upload-one list-one download-one)
