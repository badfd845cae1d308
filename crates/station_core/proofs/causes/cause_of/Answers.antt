use Rattle.station_core.proofs.causes.cause_of.Goals as goal

pub returns-in-PutFile : goal.returns-in-PutFile
returns-in-PutFile c edits f w n = rw c.in-PutFile.is (rw c.bytes.ensures at c.unput.ensures edits c.in-PutFile.project f n)

pub returns-in-DropFile : goal.returns-in-DropFile
returns-in-DropFile c edits f w n = rw c.in-DropFile.is (c.undropped.ensures edits c.in-DropFile.project f n)

pub returns-in-Waive : goal.returns-in-Waive
returns-in-Waive c edits f w n = rw c.in-Waive.is (c.unwaived.ensures edits c.in-Waive.project n)

pub returns-in-Unwaive : goal.returns-in-Unwaive
returns-in-Unwaive c edits f w n = rw c.in-Unwaive.is (c.kept_waived.ensures edits c.in-Unwaive.project w n)

pub returns-in-Report : goal.returns-in-Report
returns-in-Report c edits f w n = rw c.in-Report.is (c.unreported.ensures edits c.in-Report.project n)
