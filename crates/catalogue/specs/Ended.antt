-- How the program ends, with which exit status, and what it says of a fault.
use Rattle.std.specs.Prelude.{ℕ, List, codes, Result, Ok, Err}
use Rattle.cat_service.specs.cat_protocol.declared.serving.serving.ServeFault.{ServeFault}
use Rattle.cat_service.specs.cat_protocol.declared.serving.serving.ServeFault.TheVariants as fault
use Rattle.cat_callers.specs.declared.threads.Fault.{Fault as ThreadsFault}
use Rattle.cat_callers.specs.declared.threads.Fault.TheVariants as threads
use Rattle.catalogue.specs.declared.endings.RunFault.{RunFault}
use Rattle.catalogue.specs.declared.endings.RunFault.TheVariants.{InUse, Serving, NotStarted}
use Rattle.catalogue.specs.declared.threading.Threading.{Threading}
use Rattle.catalogue.specs.declared.threading.Threading.TheVariants.{By, Each}
use Rattle.catalogue.specs.declared.endings.Ending.{Ending}
use Rattle.catalogue.specs.declared.endings.Ending.TheVariants.{EndOfInput, WrongArguments, SchemaRefused, Fault, Unstarted}

-- what ended serving where the folder is in use, by how it ended: a read or a write that failed, and else that
abbrev pub in_use_fault : Result (Unit {0}) ServeFault → RunFault
in_use_fault (Ok u) = InUse
in_use_fault (Err fault.Schema) = InUse
in_use_fault (Err fault.Read) = Serving fault.Read
in_use_fault (Err fault.Write) = Serving fault.Write

-- what ended sessions in threads
abbrev pub threads_fault : ThreadsFault → RunFault
threads_fault threads.Schema = Serving fault.Schema
threads_fault threads.Read = Serving fault.Read
threads_fault threads.Thread = NotStarted
threads_fault threads.Write = Serving fault.Write

-- what ended serving where the folder isn't in use
abbrev pub serving_told : Result (Unit {0}) ServeFault → Result (Unit {0}) RunFault
serving_told (Ok u) = Ok u
serving_told (Err fault) = Err (Serving fault)

-- and of sessions in threads
abbrev pub threads_told : Result (Unit {0}) ThreadsFault → Result (Unit {0}) RunFault
threads_told (Ok u) = Ok u
threads_told (Err fault) = Err (threads_fault fault)

-- how many shelves of a folder are asked for: one for each thread
abbrev pub shelf_count_of : Threading → ℕ
shelf_count_of Each = 64
shelf_count_of (By count) = count

-- how the program ends, by how serving did
abbrev pub ending_of : Result (Unit {0}) RunFault → Ending
ending_of (Ok u) = EndOfInput
ending_of (Err InUse) = SchemaRefused
ending_of (Err (Serving fault.Schema)) = SchemaRefused
ending_of (Err (Serving fault.Read)) = Fault
ending_of (Err (Serving fault.Write)) = Fault
ending_of (Err NotStarted) = Unstarted

-- the exit status
abbrev pub status_of : Ending → ℕ
status_of EndOfInput = 0
status_of WrongArguments = 1
status_of SchemaRefused = 2
status_of Fault = 3
status_of Unstarted = 4

-- what is said on standard error
abbrev pub message_of : RunFault → List ℕ
message_of InUse = codes "folder in use"
message_of (Serving fault.Schema) = codes "schema refused"
message_of (Serving fault.Read) = codes "read fault"
message_of (Serving fault.Write) = codes "write fault"
message_of NotStarted = codes "thread not started"
