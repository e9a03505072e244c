pub mod FormulaReady
pub mod FormulaPieces
pub mod SumSigns
pub mod FormulaFronts
pub mod FormulaDerived
pub mod FormulaAgain
