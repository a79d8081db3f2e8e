-- What a worker's jobs need, and what a worker gives back.
use Rattle.std.specs.Prelude.{◌≡◌, ℕ, ◌<◌, List, Option, Some, None, IfSome, is_some, map, Vec}
use Rattle.std.specs.List.{AllZip, AllByRecursion, flat_map}
use Rattle.std.specs.Option.{option_to_list}
use Rattle.photo_version.specs.Author.{epoch_of_author}
use Rattle.photo_device.specs.Held.{entries_of}
use Rattle.photo_model.specs.Device.{ModelDevice}
use Rattle.photo_device.specs.Device.{Kept, Shows}
use Rattle.fleet_model.specs.declared.command.Command.{Command}
use Rattle.fleet_model.specs.Contents.{Contents, command_of, devices_of}
use Rattle.photo_script.specs.Reports.{Tells, answer_of}
use Rattle.fleet_model.specs.Runs.{Effect, effect}
use Rattle.work_ledger.specs.Stakes.{Stake, stake, nothing_done, less, both, Within}
use Rattle.fleet_steps.specs.Between.{MayPull}
use Rattle.fleet_steps.specs.Moved.{MovesFew}
use Rattle.fleet_workers.specs.declared.work.Job.{Job}
use Rattle.fleet_workers.specs.declared.work.Done.{Done}
use Rattle.fleet_workers.specs.Counting.{tally_at, worked, moved_in}

-- if there is a second model device, the second device shows it; otherwise there is none
abbrev pub ShowsSecond : Option Kept → Option ModelDevice → Type 0
ShowsSecond None None = Unit {0}
ShowsSecond None (Some m) = ⊥
ShowsSecond (Some d) None = ⊥
ShowsSecond (Some d) (Some m) = Shows d m

-- the job has a second device exactly where the command has one, and the first may pull from it
abbrev pub MayWork : Option ℕ → Kept → Option Kept → Type 0
MayWork None first None = Unit {0}
MayWork None first (Some second) = ⊥
MayWork (Some place) first None = ⊥
MayWork (Some place) first (Some second) = MayPull first second

-- the job has what the command needs, and a pull moves no more versions than the ledger can count
pub record IsFor (c : Command) (job : Job) : Type 0 where
  pub room : job.first.counter < 4_294_967_295
  pub epoch : epoch_of_author job.first.author < 4_294_967_295
  pub second : MayWork (devices_of c).1 job.first job.second
  pub model : ModelDevice
  pub other : Option ModelDevice
  pub shown : Shows job.first model
  pub other_shown : ShowsSecond job.second other
  pub few : MovesFew (effect c model other).report

-- the result shows the effect
pub record ShowsEffect (done : Done) (e : Effect) : Type 0 where
  pub first : Shows done.first e.first
  pub second : ShowsSecond done.second e.second
  pub report : Tells (answer_of done.report) e.report
  pub entries : entries_of (option_to_list done.entry) ≡ e.entries

-- The job is done: if its devices showed some model devices, the result shows the command's effect on those.
pub record IsDone (c : Command) (job : Job) (done : Done) : Type 0 where
  pub number : done.number ≡ job.number
  pub both : is_some done.second ≡ is_some job.second
  pub shows : (m : ModelDevice) (other : Option ModelDevice) → Shows job.first m → ShowsSecond job.second other → ShowsEffect done (effect c m other)

-- the same for a job of a script, by its command's number
abbrev pub IsReadyJob : Contents → Job → Type 0
IsReadyJob script job = (c : Command) × (command_of script job.number ≡ Some c) × IsFor c job

abbrev pub IsDoneJob : Contents → Job → Done → Type 0
IsDoneJob script job done = IfSome (command_of script job.number) (λ c. IsDone c job done)

abbrev pub AreReadyJobs : Contents → List Job → Type 0
AreReadyJobs script jobs = AllByRecursion (IsReadyJob script) jobs

abbrev pub AreDoneJobs : Contents → List Job → List Done → Type 0
AreDoneJobs script jobs done = AllZip (IsDoneJob script) jobs done

abbrev pub numbers_of : List Job → List ℕ
numbers_of jobs = map (λ j. j.number) jobs

-- a worker may start: its jobs are ready, and its share may count them
abbrev pub MayStart : Contents → List Job → Stake → Type 0
MayStart script jobs share = AreReadyJobs script jobs × Within (tally_at script (numbers_of jobs)) share.left

-- a worker has run its jobs in order, and its share has counted each once
abbrev pub HasWorked : Contents → List Job → List Done → Stake → Stake → Type 0
HasWorked script jobs done old new =
    let all = tally_at script (numbers_of jobs) in
    AreDoneJobs script jobs done × (new ≡ stake old.parts (less old.left all) (both old.done (worked all (moved_in done))))

-- a worker's share that may count exactly these jobs
abbrev pub share_for : Contents → List Job → Stake
share_for script jobs = stake 1 (tally_at script (numbers_of jobs)) nothing_done

-- the jobs of all groups, one group after another
abbrev pub jobs_of : {Z : Type 0} → List (Vec Job Z) → List Job
jobs_of groups = flat_map (λ v. v.items) groups
