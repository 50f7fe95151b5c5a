use Rattle.catalogue.proofs.running.do_task.Goals as goal

pub returns-in-InMemory : goal.returns-in-InMemory
returns-in-InMemory g c =
    rw c.in-InMemory.is (c.serve_memory-served.result, c.serve_memory-served.new.system, c.serve_memory-served.ensures, c.ending_after.ensures)

pub returns-in-InFolder : goal.returns-in-InFolder
returns-in-InFolder g c =
    rw c.in-InFolder.is c.do_serve_path.ensures

pub returns-in-InThreads : goal.returns-in-InThreads
returns-in-InThreads g c =
    rw c.in-InThreads.is (c.thread_path-served.result, c.thread_path-served.new.system, c.thread_path-served.ensures, c.ending_after-in-InThreads.ensures)

pub returns-in-StreamedInMemory : goal.returns-in-StreamedInMemory
returns-in-StreamedInMemory g c =
    rw c.in-StreamedInMemory.is (c.stream_in_memory-served.result, c.stream_in_memory-served.new.system, c.stream_in_memory-served.ensures, c.ending_after-in-StreamedInMemory.ensures)

pub returns-in-StreamedInFolder : goal.returns-in-StreamedInFolder
returns-in-StreamedInFolder g c =
    rw c.in-StreamedInFolder.is (c.thread_path-served-in-StreamedInFolder.result, c.thread_path-served-in-StreamedInFolder.new.system, c.thread_path-served-in-StreamedInFolder.ensures, c.ending_after-in-StreamedInFolder.ensures)

pub returns-in-Version : goal.returns-in-Version
returns-in-Version g c = rw c.in-Version.is c.say_version.ensures

pub returns-in-Usage : goal.returns-in-Usage
returns-in-Usage g c = rw c.in-Usage.is c.say_usage.ensures
