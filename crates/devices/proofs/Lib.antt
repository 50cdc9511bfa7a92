-- Laws of the calls and of the whole scan.
pub mod CallCases
pub mod AnswerBytes
pub mod ScanSteps
pub mod ScanUnderWay
pub mod Worked
